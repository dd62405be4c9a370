-- What a refusal of a circuit speaks of, by its full name.
use Rattle.std.specs.Prelude.{◌≡◌, ℕ, ◌==◌, Bool, true, false, List, ◌++◌, map, Contains, Option, Some, None, slice_get, is_some}
use Rattle.std.specs.List.{position}
use Rattle.netlist_types.specs.declared.sources.Source.{Source}
use Rattle.netlist_types.specs.declared.sources.Module.{Module}
use Rattle.cell_types.specs.declared.libraries.Library.{Library}
use Rattle.link_defs.specs.declared.circuits.Circuit.{Circuit}
use Rattle.link_defs.specs.declared.circuits.Part.{Part}
use Rattle.link_defs.specs.declared.circuits.Part.TheVariants as part
use Rattle.link_defs.specs.declared.cuts.CutSource.{CutSource}
use Rattle.link_defs.specs.Circuits.{circuit_of, clock_of}
use Rattle.link_defs.specs.CellNames.{Leaf, leaves}
use Rattle.link_defs.specs.Flatten.{Scope, Flat, flat_of}
use Rattle.link_defs.specs.Judged.{FlatNetlist, IsJudged, netlist_of}
use Rattle.linked_types.specs.declared.options.LinkOptions.{LinkOptions}
use Rattle.link_items.specs.declared.made.Instance.{Instance}
use Rattle.link_items.specs.declared.made.LeafPlace.{LeafPlace}
use Rattle.link_items.specs.Items.{scope_of, AreLeavesAt}
use Rattle.link_circuit.specs.Flats.{AreScopes}
use Rattle.link_circuit.specs.declared.circuits.FlatCircuit.{FlatCircuit}
use Rattle.link_design.specs.declared.faults.CircuitFault.{CircuitFault}
use Rattle.link_design.specs.declared.faults.CircuitFault.TheVariants as fault

-- one of the instances has the net, and so the net has a full name
abbrev pub HasNet : List Scope → ℕ → Type 0
HasNet scopes net = (scope : Scope) × Contains scopes scope × Contains scope.nets net

-- what the refusal speaks of has a full name: its net, or the register or clock gate at its place
abbrev pub HasName : List Leaf → Flat → Circuit → CircuitFault → Type 0
HasName found flat c (fault.Undriven net) = HasNet flat.scopes net
HasName found flat c (fault.ManyDrivers net) = HasNet flat.scopes net
HasName found flat c (fault.Loop net) = HasNet flat.scopes net
HasName found flat c (fault.NotTheClock place) = (l : Leaf) × Contains found l × (slice_get c.parts place ≡ Some l.part)
HasName found flat c (fault.ClockAsData net) = HasNet flat.scopes net
HasName found flat c (fault.Limit kind number) = Unit {0}
HasName found flat c fault.Memory = Unit {0}

-- a circuit with further data inputs and outputs after its own
abbrev pub with_more : Circuit → List ℕ → List ℕ → Circuit
with_more c ins outs = record { nets = c.nets; clocks = c.clocks; inputs = c.inputs ++ ins; outputs = c.outputs ++ outs; parts = c.parts }

-- each of which is a net of an instance
pub record IsExtended (scopes : List Scope) (c k : Circuit) : Type 0 where
  pub ins : List ℕ
  pub outs : List ℕ
  pub ins_there : (net : ℕ) → Contains ins net → HasNet scopes net
  pub outs_there : (net : ℕ) → Contains outs net → HasNet scopes net
  pub is : k ≡ with_more c ins outs

-- the circuit below a module, with its instances and its leaves
pub record IsCircuitBelow (s : Source) (lib : Library) (top : Module) (clock : Option (List ℕ)) (c : FlatCircuit) : Type 0 where
  pub circuit : c.circuit ≡ circuit_of s lib top clock
  pub scopes : map (scope_of s) c.scopes ≡ (flat_of s lib top).scopes
  pub are_scopes : AreScopes s c.scopes
  pub leaves : AreLeavesAt lib c.circuit.parts c.leaves (leaves s lib (flat_of s lib top))

-- the netlist below a module that is judged, or its circuit with further data inputs and outputs
pub record IsLeftBelow (s : CutSource) (lib : Library) (top : Module) (o : LinkOptions) (j : FlatNetlist) (c : FlatCircuit) : Type 0 where
  pub judged : IsJudged o.cut_clocks (netlist_of s lib top o.clock) j
  pub extended : IsExtended (flat_of s.source lib top).scopes j.circuit c.circuit
  pub scopes : map (scope_of s.source) c.scopes ≡ (flat_of s.source lib top).scopes
  pub are_scopes : AreScopes s.source c.scopes
  pub leaves : AreLeavesAt lib c.circuit.parts c.leaves j.found

-- the net stands among these
abbrev pub is_there : ℕ → List ℕ → Bool
is_there net nets = is_some (position (λ n. n == net) nets)

-- the instance has the net
abbrev pub has_net : ℕ → Instance → Bool
has_net net g = is_there net g.nets

-- the part is a register or a clock gate on that clock
abbrev pub is_clocked : ℕ → Part → Bool
is_clocked net (part.Comb buffer ins gates) = false
is_clocked net (part.Flop clock reg) = clock == net
is_clocked net (part.Gate clock enables out) = clock == net

-- so is the part of the leaf
abbrev pub is_leaf_on : ℕ → List Part → LeafPlace → Bool
is_leaf_on net parts x = elim (slice_get parts x.part) [ None ↦ false | Some p ↦ is_clocked net p ]

-- there is a register or a clock gate at the place, and a leaf that is on the same clock
abbrev pub HasLeafOn : List Part → List LeafPlace → ℕ → Type 0
HasLeafOn parts places place = (p : Part) × (clock : ℕ) × (slice_get parts place ≡ Some p) × (clock_of p ≡ Some clock)
    × ((x : LeafPlace) × Contains places x × (is_leaf_on clock parts x ≡ true))

-- the name of such a leaf
abbrev pub IsNameOn : List Part → List LeafPlace → ℕ → List ℕ → Type 0
IsNameOn parts places place name = (x : LeafPlace) × (clock : ℕ) × (here there : Part) × Contains places x × (x.name ≡ name)
    × (slice_get parts place ≡ Some here) × (clock_of here ≡ Some clock) × (slice_get parts x.part ≡ Some there) × (clock_of there ≡ Some clock)
