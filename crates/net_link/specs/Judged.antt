-- The netlist below a module that is judged, with its instances, and the cells that are cut out of it.
use Rattle.std.specs.Prelude.{◌≡◌, ℕ, ◌<◌, ◌≤◌, ◌==◌, true, List, length, map, Contains, count_by}
use Rattle.cell_types.specs.declared.libraries.Library.{Library}
use Rattle.netlist_types.specs.declared.sources.Module.{Module}
use Rattle.linked_types.specs.declared.options.LinkOptions.{LinkOptions}
use Rattle.link_defs.specs.declared.circuits.Circuit.{Circuit}
use Rattle.link_defs.specs.declared.cuts.CutCell.{CutCell}
use Rattle.link_defs.specs.declared.cuts.CutPin.{CutPin}
use Rattle.link_defs.specs.declared.cuts.CutSource.{CutSource}
use Rattle.link_defs.specs.declared.cuts.Way.TheVariants as way
use Rattle.link_defs.specs.CellNames.{Leaf, leaves}
use Rattle.link_defs.specs.Circuits.{all_drivers, all_reads}
use Rattle.link_defs.specs.Faults.{most_inputs}
use Rattle.link_defs.specs.Flatten.{Scope, flat_of}
use Rattle.link_defs.specs.Judged.{FlatNetlist, IsJudged, netlist_of}
use Rattle.link_design.specs.Lawful.{IsLawfulCircuit}
use Rattle.link_circuit.specs.Flats.{AreFine}
use Rattle.link_circuit.specs.Names.{HasNet, IsLeftBelow}
use Rattle.link_clocks.specs.Netlists.{AreCellsBelow}
use Rattle.link_clocks.specs.declared.netlists.CutNetlist.{CutNetlist}
use Rattle.link_tops.specs.Clashes.{IsApart}
use Rattle.net_link.specs.Places.{AreLeavesOf}
use Rattle.net_link.specs.declared.judged.JudgedCircuit.{JudgedCircuit}

-- it, without its instances
abbrev pub as_cut : JudgedCircuit → CutNetlist
as_cut x = record { circuit = x.flat.circuit; leaves = x.flat.leaves; cells = x.cells }

-- what a refusal of it speaks of has a full name: a net that is read and not driven, one that is driven twice, one that an output of a cell
-- that is cut out drives too, and each net on which a cell on the clock stands
pub record IsNamed (scopes : List Scope) (c : Circuit) (cells : List CutCell) : Type 0 where
  pub undriven : (net : ℕ) → Contains (all_reads c) net → (Contains (all_drivers c) net → ⊥) → HasNet scopes net
  pub twice : (net : ℕ) → 1 < count_by (λ m. m == net) (all_drivers c) → HasNet scopes net
  pub driven : (x : CutCell) (p : CutPin) → Contains cells x → Contains x.pins p → p.way ≡ way.Out → Contains (all_drivers c) p.net → HasNet scopes p.net
  pub clocked : (x : CutCell) (p : CutPin) → Contains cells x → x.clocked ≡ true → Contains x.pins p → HasNet scopes p.net

-- it is the only one; none of the items below the module is refused
pub record IsJudgedBelow (s : CutSource) (lib : Library) (top : Module) (o : LinkOptions) (j : FlatNetlist) (c : JudgedCircuit) : Type 0 where
  pub below : IsLeftBelow s lib top o j c.flat
  pub sole : (i : FlatNetlist) → IsJudged o.cut_clocks (netlist_of s lib top o.clock) i → i ≡ j
  pub circuit : c.flat.circuit ≡ j.circuit
  pub cells : c.cells ≡ j.cells
  pub lawful : IsLawfulCircuit j.circuit
  pub nets : AreCellsBelow j.circuit.nets j.cells
  pub named : IsNamed (flat_of s.source lib top).scopes j.circuit j.cells
  pub fine : AreFine s.source lib (flat_of s.source lib top)
  pub apart : IsApart (map (λ (l : Leaf). l.name) (leaves s.source lib (flat_of s.source lib top)))
  pub own : AreLeavesOf j.circuit.parts j.found
  pub few : length j.circuit.inputs ≤ most_inputs o.wide
