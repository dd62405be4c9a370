-- Cells that are cut out of a circuit, by places of their pins and by rows over the nets.
use Rattle.std.specs.Prelude.{◌≡◌, ℕ, ◌<◌, Bool, false, not, ◌&&◌, ◌||◌, List, [], ◌++◌, length, map, All, None, slice_index_or}
use Rattle.sdcv_base.specs.Seqs.{is_marked}
use Rattle.link_defs.specs.declared.circuits.Circuit.{Circuit}
use Rattle.link_defs.specs.declared.cuts.CutCell.{CutCell}
use Rattle.link_defs.specs.declared.cuts.CutPin.{CutPin}
use Rattle.link_defs.specs.declared.cuts.Way.TheVariants as way
use Rattle.link_defs.specs.Circuits.{all_drivers}
use Rattle.link_defs.specs.Cuts.{OwnedPin, owned_by, net_of, may_drive, may_read, is_in, stands_in, free_pins, free_nets, is_clocked, sink_pins, IsTreeOf}
use Rattle.link_design.specs.Trees.{tree_of}
use Rattle.link_cuts.specs.declared.rows.CutPins.{CutPins}
use Rattle.link_cuts.specs.declared.rows.CutRows.{CutRows}
use Rattle.link_cuts.specs.declared.frees.NetMarks.{NetMarks}
use Rattle.link_cuts.specs.declared.places.PinPlace.{PinPlace}

-- the cell at a place
abbrev pub cell_at : List CutCell → ℕ → CutCell
cell_at cells place = slice_index_or cells place (record { cell = []; name = []; clocked = false; pins = []; fault = None })

-- the pin of a cell at a place
abbrev pub own_pin : CutCell → ℕ → CutPin
own_pin x place = slice_index_or x.pins place (record { name = []; way = way.In; net = 0 })

-- the pin at a place, with its cell
abbrev pub pin_at : List CutCell → PinPlace → OwnedPin
pin_at cells at = owned_by (cell_at cells at.cell) (own_pin (cell_at cells at.cell) at.pin)

-- the place is one of a pin of these cells
pub record IsInCells (cells : List CutCell) (at : PinPlace) : Type 0 where
  pub cell : at.cell < length cells
  pub pin : at.pin < length (cell_at cells at.cell).pins

-- the nets of the pins at places
abbrev pub nets_at : List CutCell → List PinPlace → List ℕ
nets_at cells places = map (λ (at : PinPlace). net_of (pin_at cells at)) places

-- a row over so many nets that marks those of a list
pub record IsRowOf (nets : ℕ) (list : List ℕ) (row : List Bool) : Type 0 where
  pub len : length row ≡ nets
  pub marks : (net : ℕ) → is_marked row net ≡ stands_in list net

-- by marks of the nets that are driven and of those that are read: the pin may drive its net, nothing else drives it, and something reads it
abbrev pub is_loose_by : NetMarks → OwnedPin → Bool
is_loose_by m p = may_drive p.pin.way && (is_marked m.read p.pin.net && not (is_marked m.driven p.pin.net))

-- by rows over the nets: the pin reads a net that is no clock's and that the design drives
abbrev pub reads_by : CutRows → CutPin → Bool
reads_by r p = not (is_marked r.tree.all p.net) && ((may_read p.way && is_marked r.driven p.net) || (is_in p.way && is_marked r.free p.net))

-- by rows over nets and cells: the pin at a place is a sink
abbrev pub is_sink_at : CutRows → List CutCell → PinPlace → Bool
is_sink_at r cells at = is_marked r.clocked at.cell && reads_by r (own_pin (cell_at cells at.cell) at.pin)

-- a circuit with further data inputs and outputs after its own
abbrev pub with_nets : Circuit → List ℕ → List ℕ → Circuit
with_nets c ins outs = record { nets = c.nets; clocks = c.clocks; inputs = c.inputs ++ ins; outputs = c.outputs ++ outs; parts = c.parts }

-- the pins by which cells that are cut out of a circuit drive free nets and read what it drives, and rows over its nets
pub record IsCutOut (c : Circuit) (cells : List CutCell) (k : CutPins) : Type 0 where
  pub tree : IsTreeOf c (tree_of k.rows.tree)
  pub driven : IsRowOf c.nets (all_drivers c) k.rows.driven
  pub free_row : IsRowOf c.nets (free_nets c cells) k.rows.free
  pub clocked : k.rows.clocked ≡ map (is_clocked (tree_of k.rows.tree)) cells
  pub free : map (pin_at cells) k.free ≡ free_pins c cells
  pub free_at : All (IsInCells cells) k.free
  pub sinks : map (pin_at cells) k.sinks ≡ sink_pins c (tree_of k.rows.tree) cells
  pub sinks_at : All (IsInCells cells) k.sinks
  pub inputs : k.inputs ≡ length c.inputs
  pub outputs : k.outputs ≡ length c.outputs
