-- Cells that are cut out of a flat netlist: what they drove may be anything, and what those on the clock read is captured there.
use Rattle.std.specs.Prelude.{◌≡◌, ◌↔◌, ℕ, ◌+◌, Bool, true, false, not, ◌&&◌, ◌||◌, nat_eq, if◌then◌else◌, List, [], ◌∷◌, ◌++◌, length, map, filter, flat_map}
use Rattle.std.specs.Prelude.{◌<◌, All, Contains, None, slice_index, slice_index_or, count_by}
use Rattle.std.specs.List.{list_any, position_or_len}
use Rattle.std.specs.Str.{bytes_eq}
use Rattle.sdcv_base.specs.Seqs.{is_marked}
use Rattle.texts.specs.Names.{each_once}
use Rattle.netlist_types.specs.declared.sources.Source.{Source}
use Rattle.netlist_types.specs.declared.sources.Module.{Module}
use Rattle.netlist_types.specs.Lawful.{IsLawful}
use Rattle.linked_types.specs.declared.names.CellName.{CellName}
use Rattle.linked_types.specs.declared.names.CutName.{CutName}
use Rattle.linked_types.specs.declared.names.PinName.{PinName}
use Rattle.linked_types.specs.declared.names.PinRole.{PinRole}
use Rattle.linked_types.specs.declared.names.PinRole.TheVariants as role
use Rattle.link_defs.specs.declared.circuits.Circuit.{Circuit}
use Rattle.link_defs.specs.declared.cuts.CutCell.{CutCell}
use Rattle.link_defs.specs.declared.cuts.CutItem.{CutItem}
use Rattle.link_defs.specs.declared.cuts.CutPin.{CutPin}
use Rattle.link_defs.specs.declared.cuts.CutSource.{CutSource}
use Rattle.link_defs.specs.declared.cuts.Way.{Way}
use Rattle.link_defs.specs.declared.cuts.Way.TheVariants as way
use Rattle.link_defs.specs.Circuits.{all_drivers, all_reads, OnTree, IsTree}
use Rattle.link_defs.specs.Flatten.{Scope}

-- a pin of a cut instance, where its module stands
abbrev pub pin_in : Scope → CutPin → CutPin
pin_in scope p = record { name = p.name; way = p.way; net = slice_index scope.nets p.net }

-- a cut instance, where its module stands
abbrev pub cell_in : Scope → CutItem → CutCell
cell_in scope x = record {
  cell = x.cell;
  name = scope.prefix ++ x.name;
  clocked = x.clocked;
  pins = map (pin_in scope) x.pins;
  fault = x.fault;
}

-- the cut instances of a module, where it stands
abbrev pub cells_in : List CutItem → Scope → List CutCell
cells_in items scope = map (cell_in scope) (filter (λ (x : CutItem). bytes_eq x.module scope.body.name) items)

-- the cells that are cut out: module instance by module instance in the order in which flattening meets these, and in each in the order of
-- its text
abbrev pub cut_cells : List CutItem → List Scope → List CutCell
cut_cells items scopes = flat_map (cells_in items) scopes

-- a pin with the cell that it is of
pub record OwnedPin : Type 0 where
  pub cell : CutCell
  pub pin : CutPin

abbrev pub owned_by : CutCell → CutPin → OwnedPin
owned_by x p = record { cell = x; pin = p }

-- the pins of a cell
abbrev pub owned_pins : CutCell → List OwnedPin
owned_pins x = map (owned_by x) x.pins

-- the net that it is connected to, and its full name
abbrev pub net_of : OwnedPin → ℕ
net_of p = p.pin.net

abbrev pub pin_name : OwnedPin → List ℕ
pin_name p = p.cell.name ++ 47 ∷ p.pin.name

-- such a pin may drive its net; such a one may read it; it is known to read it
abbrev pub may_drive : Way → Bool
may_drive way.In = false
may_drive way.Out = true
may_drive way.Either = true

abbrev pub may_read : Way → Bool
may_read way.In = true
may_read way.Out = false
may_read way.Either = true

abbrev pub is_in : Way → Bool
is_in way.In = true
is_in way.Out = false
is_in way.Either = false

-- the net is one of these
abbrev pub stands_in : List ℕ → ℕ → Bool
stands_in nets net = list_any (nat_eq net) nets

-- nothing drives the net but cut cells, by a pin that may, and something reads it
abbrev pub is_loose : Circuit → OwnedPin → Bool
is_loose c p = may_drive p.pin.way && (stands_in (all_reads c) p.pin.net && not (stands_in (all_drivers c) p.pin.net))

-- the first pin on each net, but on none of these
abbrev pub first_pins : List ℕ → List OwnedPin → List OwnedPin
first_pins seen [] = []
first_pins seen (p ∷ ps) = if stands_in seen p.pin.net then first_pins seen ps else p ∷ first_pins (p.pin.net ∷ seen) ps

-- the free nets, each by the first pin that may drive it; the cell of that pin owns the net
abbrev pub free_pins : Circuit → List CutCell → List OwnedPin
free_pins c cells = first_pins [] (filter (is_loose c) (flat_map owned_pins cells))

abbrev pub free_nets : Circuit → List CutCell → List ℕ
free_nets c cells = map net_of (free_pins c cells)

-- a row that marks the nets of the clock tree after an even number of inversions
abbrev pub IsEven : Circuit → List Bool → Type 0
IsEven c even = (net : ℕ) → (slice_index_or even net false ≡ true) ↔ OnTree c net false

-- the clock tree of a circuit, by rows over its nets
pub record Tree : Type 0 where
  pub all : List Bool
  pub even : List Bool

pub record IsTreeOf (c : Circuit) (t : Tree) : Type 0 where
  pub all : IsTree c t.all
  pub even : IsEven c t.even

-- the cell captures at the clock's edge: it stands on the clock
abbrev pub is_clocked : Tree → CutCell → Bool
is_clocked t x = x.clocked && list_any (λ (p : CutPin). is_marked t.even p.net) x.pins

-- the pin reads a net that is no clock's and that the design drives: a pin that may drive reads no free net
abbrev pub reads_data : Circuit → Tree → List ℕ → CutPin → Bool
reads_data c t free p =
    not (is_marked t.all p.net) && ((may_read p.way && stands_in (all_drivers c) p.net) || (is_in p.way && stands_in free p.net))

-- the pin is a sink: one of a cell on the clock that reads data
abbrev pub is_sink : Circuit → Tree → List ℕ → OwnedPin → Bool
is_sink c t free p = is_clocked t p.cell && reads_data c t free p.pin

-- what cells on the clock read, pin by pin
abbrev pub sink_pins : Circuit → Tree → List CutCell → List OwnedPin
sink_pins c t cells = filter (is_sink c t (free_nets c cells)) (flat_map owned_pins cells)

-- the circuit with the free nets as data inputs after the ports, and the sinks as outputs after them
unfoldable pub cut_circuit : Circuit → Tree → List CutCell → Circuit
cut_circuit c t cells = record {
  nets = c.nets;
  clocks = c.clocks;
  inputs = c.inputs ++ free_nets c cells;
  outputs = c.outputs ++ map net_of (sink_pins c t cells);
  parts = c.parts;
}

-- the circuit that is left of one where these cells are cut out; its clock tree counts where there are any
pub record IsCut (c : Circuit) (cells : List CutCell) (k : Circuit) : Type 0 where
  pub tree : Tree
  pub tree_is : (x : CutCell) → Contains cells x → IsTreeOf c tree
  pub is : k ≡ cut_circuit c tree cells

-- a circuit with its clock tree and the cells that are cut out of it, and the numbers of its nets in the design
pub record CutFrame : Type 0 where
  pub circuit : Circuit
  pub tree : Tree
  pub cells : List CutCell
  pub number : ℕ → ℕ

-- the free nets of the frame
abbrev pub frame_nets : CutFrame → List ℕ
frame_nets f = free_nets f.circuit f.cells

-- the pin may drive a free net
abbrev pub drives_free : CutFrame → CutPin → Bool
drives_free f p = may_drive p.way && stands_in (frame_nets f) p.net

-- the cell owns the net
abbrev pub owns : CutFrame → CutCell → ℕ → Bool
owns f x net = list_any (λ (p : OwnedPin). nat_eq net p.pin.net && bytes_eq x.name p.cell.name) (free_pins f.circuit f.cells)

-- a pin of a cell on the clock that drives a net of the cell's own
abbrev pub is_source : CutFrame → OwnedPin → Bool
is_source f p = is_clocked f.tree p.cell && (drives_free f p.pin && owns f p.cell p.pin.net)

abbrev pub is_frame_sink : CutFrame → OwnedPin → Bool
is_frame_sink f p = is_sink f.circuit f.tree (frame_nets f) p

-- the number of the data input that a free net is
abbrev pub input_of : CutFrame → ℕ → ℕ
input_of f net = length f.circuit.inputs + position_or_len (nat_eq net) (frame_nets f)

-- what a pin is, after so many sinks
abbrev pub cut_role : CutFrame → ℕ → OwnedPin → PinRole
cut_role f sinks p =
    if is_source f p then role.Source (input_of f p.pin.net)
    else (if is_frame_sink f p then role.Sink (length f.circuit.outputs + sinks)
    else (if drives_free f p.pin then role.Drive (f.number p.pin.net) else role.Load []))

-- how many sinks are among these pins
abbrev pub sink_count : CutFrame → List OwnedPin → ℕ
sink_count f pins = count_by (is_frame_sink f) pins

-- pins by their own names, after so many sinks
abbrev pub cut_pin_names : CutFrame → ℕ → List OwnedPin → List PinName
cut_pin_names f sinks [] = []
cut_pin_names f sinks (p ∷ ps) =
    (record { name = p.pin.name; role = cut_role f sinks p }) ∷ cut_pin_names f (sinks + sink_count f (p ∷ [])) ps

-- the free nets on which its pins stand that may drive
abbrev pub cut_outs : CutFrame → CutCell → List ℕ
cut_outs f x = map (λ (p : CutPin). f.number p.net) (filter (drives_free f) x.pins)

abbrev pub cut_cell_name : CutFrame → ℕ → CutCell → CellName
cut_cell_name f sinks x = record { name = x.name; reg = None; outs = cut_outs f x; pins = cut_pin_names f sinks (owned_pins x) }

-- cells that are cut out by name, after so many sinks
abbrev pub cut_cell_names : CutFrame → ℕ → List CutCell → List CellName
cut_cell_names f sinks [] = []
cut_cell_names f sinks (x ∷ xs) = cut_cell_name f sinks x ∷ cut_cell_names f (sinks + sink_count f (owned_pins x)) xs

-- the references of cells that are cut out, each once, with how many cells are of it; no path leads through them
abbrev pub cut_name : List CutCell → List ℕ → CutName
cut_name cells reference = record { cell = reference; count = count_by (λ (x : CutCell). bytes_eq reference x.cell) cells; «open» = false }

abbrev pub cut_names : List CutCell → List CutName
cut_names cells = map (cut_name cells) (each_once (map (λ (x : CutCell). x.cell) cells))

-- the pins of a cut instance are connected to nets of its module
abbrev pub IsFitItem : Source → CutItem → Type 0
IsFitItem s x = (m : Module) → Contains s.modules m → m.name ≡ x.module → All (λ (p : CutPin). p.net < length m.nets) x.pins

-- a source that can be linked, and instances that can be placed in it
pub record IsLawfulCut (s : CutSource) : Type 0 where
  pub source : IsLawful s.source
  pub items : All (IsFitItem s.source) s.items
