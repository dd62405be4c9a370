-- What the pins of cells that are cut out are, by rows over nets and cells.
use Rattle.std.specs.Prelude.{ℕ, ◌+◌, Bool, false, ◌&&◌, if◌then◌else◌, List, [], length, map, filter, Option, Some, None, slice_get, slice_index_or}
use Rattle.std.specs.Str.{bytes_eq}
use Rattle.sdcv_base.specs.Seqs.{is_marked}
use Rattle.linked_types.specs.declared.names.PinRole.{PinRole}
use Rattle.linked_types.specs.declared.names.PinRole.TheVariants as role
use Rattle.link_defs.specs.declared.circuits.Circuit.{Circuit}
use Rattle.link_defs.specs.declared.cuts.CutCell.{CutCell}
use Rattle.link_defs.specs.declared.cuts.CutPin.{CutPin}
use Rattle.link_defs.specs.Cuts.{CutFrame, may_drive}
use Rattle.link_design.specs.Trees.{tree_of}
use Rattle.link_cuts.specs.declared.namings.Naming.{Naming}
use Rattle.link_cuts.specs.declared.places.PinPlace.{PinPlace}
use Rattle.link_cuts.specs.declared.rows.CutRows.{CutRows}
use Rattle.link_cuts.specs.Cutting.{cell_at, own_pin, is_sink_at, IsCutOut}

-- the cells are cut out of this circuit, and their pins are these
abbrev pub IsNamed : Naming → Circuit → Type 0
IsNamed n c = IsCutOut c n.cells.now n.pins.now

-- the number of a net; one that the row hasn't has the number of all nets of the design
abbrev pub number_in : Naming → ℕ → ℕ
number_in n net = slice_index_or n.numbers.now net n.nets

-- the circuit with these cells and numbers
abbrev pub frame_of : Naming → Circuit → CutFrame
frame_of n c = record { circuit = c; tree = tree_of n.pins.now.rows.tree; cells = n.cells.now; number = number_in n }

-- the pin may drive a free net
abbrev pub drives_by : CutRows → CutPin → Bool
drives_by r p = may_drive p.way && is_marked r.free p.net

-- the place of the free pin on a net
abbrev pub place_in : Naming → ℕ → ℕ
place_in n net = slice_index_or n.places net (length n.pins.now.free)

-- the cell of a pin, if there is one
abbrev pub cell_of : List CutCell → Option PinPlace → Option CutCell
cell_of cells None = None
cell_of cells (Some at) = slice_get cells at.cell

-- the cell has this name
abbrev pub is_named : List ℕ → Option CutCell → Bool
is_named name None = false
is_named name (Some x) = bytes_eq name x.name

-- the cell of the free pin on a net
abbrev pub owner_of : Naming → ℕ → Option CutCell
owner_of n net = cell_of n.cells.now (slice_get n.pins.now.free (place_in n net))

-- the pin at a place drives a free net of its cell's own, and its cell captures at the clock's edge
abbrev pub is_source_at : Naming → PinPlace → Bool
is_source_at n at =
    let x = cell_at n.cells.now at.cell in
    let p = own_pin x at.pin in
    is_marked n.pins.now.rows.clocked at.cell && (drives_by n.pins.now.rows p && is_named x.name (owner_of n p.net))

-- what it is, after so many sinks
abbrev pub role_at : Naming → ℕ → PinPlace → PinRole
role_at n sinks at =
    let p = own_pin (cell_at n.cells.now at.cell) at.pin in
    if is_source_at n at then role.Source (n.pins.now.inputs + place_in n p.net)
    else (if is_sink_at n.pins.now.rows n.cells.now at then role.Sink (n.pins.now.outputs + sinks)
    else (if drives_by n.pins.now.rows p then role.Drive (number_in n p.net) else role.Load []))

-- how many sinks there are with it
abbrev pub with_sink : Naming → ℕ → PinPlace → ℕ
with_sink n sinks at = if is_sink_at n.pins.now.rows n.cells.now at then sinks + 1 else sinks

-- the free nets on which the pins of a cell stand that may drive
abbrev pub outs_by : Naming → CutCell → List ℕ
outs_by n x = map (λ (p : CutPin). number_in n p.net) (filter (drives_by n.pins.now.rows) x.pins)
