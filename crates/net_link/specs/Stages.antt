-- What stands after the stages of linking.
use Rattle.std.specs.Prelude.{◌≡◌, ℕ, ◌+◌, ◌<◌, ◌≤◌, ◌==◌, Bool, List, ◌++◌, length, map, Option, count_by}
use Rattle.std.specs.List.{IsDistinct}
use Rattle.std.specs.Str.{bytes_eq}
use Rattle.sdcv_base.specs.declared.limits.LimitName.TheVariants as what
use Rattle.net_model.specs.declared.netlist.Gate.{Gate}
use Rattle.icg_rewrite.specs.declared.clock_gates.Gated.{Gated}
use Rattle.icg_rewrite.specs.Faults.{IsFull}
use Rattle.icg_rewrite.specs.Gated.{AreGated}
use Rattle.icg_rewrite.specs.Rewritten.{rewritten}
use Rattle.netlist_types.specs.declared.sources.Source.{Source}
use Rattle.netlist_types.specs.declared.sources.Module.{Module}
use Rattle.cell_types.specs.declared.libraries.Library.{Library}
use Rattle.link_design.specs.Lawful.{IsLawfulCircuit}
use Rattle.link_design.specs.Made.{IsClocked}
use Rattle.linked_types.specs.declared.faults.LinkFault.{LinkFault}
use Rattle.linked_types.specs.declared.faults.LinkFault.TheVariants as fault
use Rattle.linked_types.specs.declared.names.CellName.{CellName}
use Rattle.linked_types.specs.declared.names.NetName.{NetName}
use Rattle.linked_types.specs.declared.options.LinkOptions.{LinkOptions}
use Rattle.link_defs.specs.CellNames.{Leaf, leaves, cell_names, AreNetNames}
use Rattle.link_defs.specs.Circuits.{all_drivers, input_bits, output_bits}
use Rattle.link_defs.specs.Designs.{drivers_by, number_by}
use Rattle.link_defs.specs.GateOrders.{ClockPart}
use Rattle.link_defs.specs.GatedDesigns.{IsGatedOf, enabled_drivers}
use Rattle.link_defs.specs.Faults.{bit_names, IsBadSetting}
use Rattle.link_defs.specs.Flatten.{Flat, flat_of, full_names}
use Rattle.link_defs.specs.Links.{source_count}
use Rattle.link_items.specs.Items.{AreLeavesAt}
use Rattle.net_link.specs.Places.{AreLeavesOf, ArePlacesOf}
use Rattle.link_tops.specs.Clashes.{leaf_names, cut_names, IsApart}
use Rattle.link_circuit.specs.Flats.{AreFine}
use Rattle.link_circuit.specs.declared.circuits.FlatCircuit.{FlatCircuit}
use Rattle.link_circuit.specs.Names.{IsCircuitBelow}
use Rattle.net_link.specs.declared.left.LeftCircuit.{LeftCircuit}
use Rattle.net_link.specs.Left.{IsCutAs, cells_of, frame_of}
use Rattle.net_link.specs.Nets.{names_in}
use Rattle.link_defs.specs.Cuts.{cut_cell_names}
use Rattle.link_defs.specs.declared.circuits.Circuit.{Circuit}

-- the circuit below a module, none of whose items is refused and no two of whose leaves have one name
pub record IsFlatCircuit (s : Source) (lib : Library) (top : Module) (clock : Option (List ℕ)) (c : FlatCircuit) : Type 0 where
  pub below : IsCircuitBelow s lib top clock c
  pub fine : AreFine s lib (flat_of s lib top)
  pub differ : IsDistinct bytes_eq (leaf_names c.leaves)
  pub apart : IsApart (map (λ (l : Leaf). l.name) (leaves s lib (flat_of s lib top)))

-- no two port bits of the top module have one name, and each setting is one of an input
pub record IsFitting (top : Module) (o : LinkOptions) : Type 0 where
  pub ports : IsApart (bit_names (input_bits top ++ output_bits top))
  pub settings : (name : List ℕ) → IsBadSetting top o name → ⊥

-- the leaves by name, and then the cells that are cut out of a circuit
abbrev pub AreAllNames : Circuit → LeftCircuit → List Bool → (ℕ → ℕ) → List Leaf → List CellName → Type 0
AreAllNames c l tree number found list =
    list ≡ cell_names number (source_count l.flat.circuit) tree 0 found ++ cut_cell_names (frame_of c l.cut number) 0 (cells_of l.cut)

-- the design of a circuit with its clock gates, and its cells and nets by name, whatever the circuit was made of
pub record AreInner (s : Source) (lib : Library) (l : LeftCircuit) (order : List Gate) (g : Gated) (cells : List CellName) (nets : List NetName)
    : Type 0 where
  pub once : (net : ℕ) → count_by (λ m. m == net) (all_drivers l.flat.circuit) ≤ 1
  pub clocked : IsClocked l.flat.circuit
  pub lawful : AreGated g
  pub tree : List Bool
  pub gates : List ClockPart
  pub gated_is : IsGatedOf l.flat.circuit tree order gates g
  pub own : (c : Circuit) → IsCutAs c l.cut l.flat.circuit
      → map (λ (x : CellName). x.name) cells ≡ leaf_names l.flat.leaves ++ cut_names (cells_of l.cut)
  pub cells_are : (c : Circuit) (found : List Leaf) → IsCutAs c l.cut l.flat.circuit → IsLawfulCircuit l.flat.circuit
      → AreLeavesAt lib l.flat.circuit.parts l.flat.leaves found
      → AreAllNames c l tree (number_by (enabled_drivers l.flat.circuit order gates)) found cells
  pub places : (c : Circuit) (found : List Leaf) → IsCutAs c l.cut l.flat.circuit → IsLawfulCircuit l.flat.circuit
      → AreLeavesOf l.flat.circuit.parts found → AreLeavesAt lib l.flat.circuit.parts l.flat.leaves found → ArePlacesOf (rewritten g) cells
  pub nets_are : (flat : Flat) → full_names flat ≡ names_in s l.flat.scopes
      → AreNetNames flat (drivers_by l.flat.circuit order) (number_by (drivers_by l.flat.circuit order)) nets

-- why there is no room for enables; want of memory alone is free
abbrev pub IsEnableCause : Gated → LinkFault → Type 0
IsEnableCause g (fault.Limit what.Pins number) = (number ≡ 6) × ((r : ℕ) × IsFull g r)
IsEnableCause g (fault.Limit what.Nets number) = (number ≡ 200001) × (200000 < g.design.nets + length g.gates)
IsEnableCause g fault.Memory = Unit {0}
IsEnableCause g e = ⊥
