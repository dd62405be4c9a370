-- What a refusal of a circuit that is left of another, with further inputs and outputs, speaks of has a full name.
use Rattle.std.proofs.Common.{◌≡◌, ℕ, ◌+◌, ◌<◌, ◌≤◌, Bool, false, List, ◌++◌, length, subst, sym, arith, inl, inr, ◌⊎◌}
use Rattle.std.specs.Prelude.{Option, Some, Contains, flat_map, count_by, ◌==◌, slice_get}
use Rattle.net_model.specs.declared.netlist.Gate.{Gate}
use Rattle.net_model.specs.Netlist.{gate_nets, reg_nets}
use Rattle.net_model.proofs.Members.{In, In-cases, In-left, In-right, In-map, in_or, In-from_Contains, Contains-from_In}
use Rattle.net_model.proofs.Order.{count_append, count_contains}
use Rattle.netlist_types.specs.declared.sources.Source.{Source}
use Rattle.netlist_types.specs.declared.sources.Module.{Module}
use Rattle.netlist_types.specs.Lawful.{IsLawful, IsLawfulModule}
use Rattle.cell_types.specs.declared.libraries.Library.{Library}
use Rattle.cell_types.specs.Libraries.{IsLawful as IsLawfulLibrary}
use Rattle.link_design.specs.Faults.{IsCause}
use Rattle.link_design.specs.declared.faults.CircuitFault.{CircuitFault}
use Rattle.link_design.specs.declared.faults.CircuitFault.TheVariants as fault
use Rattle.link_defs.specs.declared.circuits.Circuit.{Circuit}
use Rattle.link_defs.specs.declared.circuits.Part.{Part}
use Rattle.link_defs.specs.declared.cuts.CutItem.{CutItem}
use Rattle.link_defs.specs.CellNames.{Leaf}
use Rattle.link_defs.specs.Circuits.{circuit_of, part_data, part_gated, part_reads, regs_of, all_gates, all_drivers, all_reads, all_data, clock_of}
use Rattle.link_defs.specs.Circuits.{OnTree, IsOnCycle}
use Rattle.link_defs.specs.Circuits as net
use Rattle.link_defs.specs.Flatten.{Scope, flat_of}
use Rattle.link_defs.specs.Judged.{FlatNetlist, IsJudged, netlist_of}
use Rattle.link_circuit.specs.Flats.{AreFine}
use Rattle.link_circuit.specs.Names.{HasNet, HasName, with_more, IsExtended}
use Rattle.link_circuit.proofs.Circuited.{circuit_lawful}
use Rattle.link_circuit.proofs.Naming.{IsRefusedBelow, net_of, seen_or, drivers_once, read_seen, data_seen, tree_seen, either_seen, loop_seen}
use Rattle.link_circuit.proofs.Naming.{all_parts, clocked_named, ports_below}
use Rattle.link_circuit.proofs.Reading.{IsConst, gates_of}
use Rattle.link_circuit.proofs.Seating.{IsSeen, flat_whole}
use Rattle.link_circuit.proofs.Spread.{zero_of}
use Rattle.link_circuit.proofs.Thinned.{IsThinned, HasLeafAt, judged_thin, judged_leaf, thin_reads, thin_data}

-- an instance with the net
seen_by : (scopes : List Scope) (n : ℕ) → HasNet scopes n → IsSeen scopes n
seen_by scopes n (scope, there, has) = (scope, In-from_Contains scopes scope there, In-from_Contains scope.nets n has)

-- the further inputs are the further drivers
pub drivers_counted : (c : Circuit) (ins outs : List ℕ) (n : ℕ)
    → count_by (λ m. m == n) (all_drivers (with_more c ins outs)) ≡ count_by (λ m. m == n) (all_drivers c) + count_by (λ m. m == n) ins
drivers_counted c ins outs n =
    let p : ℕ → Bool = λ m. m == n in
    let regs = flat_map reg_nets (regs_of c) in
    let gates = gate_nets (all_gates c) in
    let gated = flat_map part_gated c.parts in
    let more = c.inputs ++ ins in
    omega (
      arith,
      count_append p (((c.clocks ++ more) ++ regs) ++ gates) gated,
      count_append p ((c.clocks ++ more) ++ regs) gates,
      count_append p (c.clocks ++ more) regs,
      count_append p c.clocks more,
      count_append p c.inputs ins,
      count_append p (((c.clocks ++ c.inputs) ++ regs) ++ gates) gated,
      count_append p ((c.clocks ++ c.inputs) ++ regs) gates,
      count_append p (c.clocks ++ c.inputs) regs,
      count_append p c.clocks c.inputs,
    )

-- a driver is one of the circuit with more
driver_kept : (c : Circuit) (ins outs : List ℕ) (n : ℕ) → Contains (all_drivers c) n → Contains (all_drivers (with_more c ins outs)) n
driver_kept c ins outs n has = elim (in_or n (all_drivers (with_more c ins outs))) [
  | inl there ↦ Contains-from_In (all_drivers (with_more c ins outs)) n there
  | inr none ↦
      let all = zero_of n (all_drivers (with_more c ins outs)) none in
      let some = count_contains n (all_drivers c) has in
      absurd (omega (arith, drivers_counted c ins outs n, all, some))
]

-- what is read is read by the circuit, or by a further output
with_outer : (xs ys zs : List ℕ) (n : ℕ) → In n (xs ++ ys ++ zs) → In n (xs ++ zs) ⊎ In n ys
with_outer xs ys zs n has = elim (In-cases n (xs ++ ys) zs has) [
  | inl outer ↦ elim (In-cases n xs ys outer) [
    | inl own ↦ inl (In-left n xs zs own)
    | inr more ↦ inr more
  ]
  | inr later ↦ inl (In-right n xs zs later)
]

-- the clock tree is that of the circuit
tree_kept : (c : Circuit) (ins outs : List ℕ) (n : ℕ) (odd : Bool) → OnTree (with_more c ins outs) n odd → OnTree c n odd
tree_kept c ins outs n odd (net.Root m there) = net.Root m there
tree_kept c ins outs n odd (net.Buffered from gates g even has there tree) =
    net.Buffered from gates g even has there (tree_kept c ins outs from even tree)
tree_kept c ins outs n odd (net.Gated from enables out has tree) = net.Gated from enables out has (tree_kept c ins outs from false tree)

-- further inputs and outputs are nets of instances
record AreNetsOf (scopes : List Scope) (ins outs : List ℕ) : Type 0 where
  pub of_ins : (net : ℕ) → Contains ins net → HasNet scopes net
  pub of_outs : (net : ℕ) → Contains outs net → HasNet scopes net

-- a constant drives a net
const_drives : (c : Circuit) (n : ℕ) → IsConst (all_gates c) n → Contains (all_drivers c) n
const_drives c n (g, there, out, none) =
    let before = c.clocks ++ c.inputs ++ flat_map reg_nets (regs_of c) in
    let gated = flat_map part_gated c.parts in
    let drives = subst (λ (m : ℕ). In m (gate_nets (all_gates c))) out (In-map (λ (g : Gate). g.out) g (all_gates c) there) in
    Contains-from_In (all_drivers c) n
    (In-left n (before ++ gate_nets (all_gates c)) gated (In-right n before (gate_nets (all_gates c)) drives))

const_gates : (s : Source) (lib : Library) (top : Module) (clock : Option (List ℕ)) (n : ℕ) → IsConst (gates_of (all_parts s lib top)) n
    → IsConst (all_gates (circuit_of s lib top clock)) n
unfolding circuit_of
const_gates s lib top clock n const = const

-- what is left of the circuit below a module, with the nets of instances as further inputs and outputs
record IsMoreBelow (s : Source) (lib : Library) (top : Module) (clock : Option (List ℕ)) (j : Circuit) (ins outs : List ℕ) : Type 0 where
  pub refused : IsRefusedBelow s lib top clock
  pub thin : IsThinned (circuit_of s lib top clock) j
  pub nets : AreNetsOf (flat_of s lib top).scopes ins outs

undriven_known : (s : Source) (lib : Library) (top : Module) (clock : Option (List ℕ)) (j : Circuit) (ins outs : List ℕ) (n : ℕ)
    → IsMoreBelow s lib top clock j ins outs → (Contains (all_drivers (with_more j ins outs)) n → ⊥)
    → IsSeen (flat_of s lib top).scopes n ⊎ IsConst (gates_of (all_parts s lib top)) n → IsSeen (flat_of s lib top).scopes n
undriven_known s lib top clock j ins outs n m undriven (inl seen) = seen
undriven_known s lib top clock j ins outs n m undriven (inr const) =
    let here = subst (λ (gs : List Gate). IsConst gs n) (sym m.thin.gates) (const_gates s lib top clock n const) in
    absurd (undriven (driver_kept j ins outs n (const_drives j n here)))

more_read : (s : Source) (lib : Library) (top : Module) (clock : Option (List ℕ)) (j : Circuit) (ins outs : List ℕ) (n : ℕ)
    → IsMoreBelow s lib top clock j ins outs → Contains (all_reads (with_more j ins outs)) n
    → (Contains (all_drivers (with_more j ins outs)) n → ⊥) → HasNet (flat_of s lib top).scopes n
more_read s lib top clock j ins outs n m read undriven =
    let c = circuit_of s lib top clock in
    elim (with_outer j.outputs outs (flat_map part_reads j.parts) n (In-from_Contains (all_reads (with_more j ins outs)) n read)) [
      | inl own ↦
          net_of (flat_of s lib top).scopes n
          (undriven_known s lib top clock j ins outs n m undriven (read_seen s lib top clock n m.refused (thin_reads c j n m.thin own)))
      | inr more ↦ m.nets.of_outs n (Contains-from_In outs n more)
    ]

more_data : (s : Source) (lib : Library) (top : Module) (clock : Option (List ℕ)) (j : Circuit) (ins outs : List ℕ) (n : ℕ) (odd : Bool)
    → IsMoreBelow s lib top clock j ins outs → Contains (all_data (with_more j ins outs)) n → OnTree (with_more j ins outs) n odd
    → HasNet (flat_of s lib top).scopes n
more_data s lib top clock j ins outs n odd m read tree =
    let c = circuit_of s lib top clock in
    elim (with_outer j.outputs outs (flat_map part_data j.parts) n (In-from_Contains (all_data (with_more j ins outs)) n read)) [
      | inl own ↦
          net_of (flat_of s lib top).scopes n
          (either_seen s lib top clock n m.refused (data_seen s lib top clock n m.refused (thin_data c j n m.thin own))
          (tree_seen s lib top clock n odd m.refused (m.thin.tree n odd (tree_kept j ins outs n odd tree))))
      | inr more ↦ m.nets.of_outs n (Contains-from_In outs n more)
    ]

more_twice : (s : Source) (lib : Library) (top : Module) (clock : Option (List ℕ)) (j : Circuit) (ins outs : List ℕ) (n : ℕ)
    → IsMoreBelow s lib top clock j ins outs → 1 < count_by (λ m. m == n) (all_drivers (with_more j ins outs)) → HasNet (flat_of s lib top).scopes n
more_twice s lib top clock j ins outs n m twice = elim (seen_or (flat_of s lib top).scopes n) [
  | inl seen ↦ net_of (flat_of s lib top).scopes n seen
  | inr unseen ↦
      let most = drivers_once s lib top clock n m.refused.known.whole m.refused.ports unseen in
      let none = zero_of n ins (λ has. unseen (seen_by (flat_of s lib top).scopes n (m.nets.of_ins n (Contains-from_In ins n has)))) in
      absurd (omega (arith, most, twice, none, drivers_counted j ins outs n, m.thin.drivers n))
]

more_loop : (s : Source) (lib : Library) (top : Module) (clock : Option (List ℕ)) (j : Circuit) (ins outs : List ℕ) (n : ℕ)
    → IsMoreBelow s lib top clock j ins outs → IsOnCycle (all_gates j) n → HasNet (flat_of s lib top).scopes n
more_loop s lib top clock j ins outs n m cycle =
    net_of (flat_of s lib top).scopes n
    (loop_seen s lib top clock n m.refused (subst (λ (gs : List Gate). IsOnCycle gs n) m.thin.gates cycle))

-- the leaf of the register or clock gate at a place
abbrev AreClockedNamed : List Leaf → Circuit → Type 0
AreClockedNamed found c = (place : ℕ) (q : Part) (pin : ℕ) → clock_of q ≡ Some pin → slice_get c.parts place ≡ Some q → HasLeafAt found c.parts place

more_named : (s : Source) (lib : Library) (top : Module) (clock : Option (List ℕ)) (j : Circuit) (found : List Leaf) (ins outs : List ℕ) (f : CircuitFault)
    → IsMoreBelow s lib top clock j ins outs → AreClockedNamed found j → IsCause (with_more j ins outs) f
    → HasName found (flat_of s lib top) (with_more j ins outs) f
more_named s lib top clock j found ins outs (fault.Undriven n) m named cause = more_read s lib top clock j ins outs n m cause.0 cause.1
more_named s lib top clock j found ins outs (fault.ManyDrivers n) m named cause = more_twice s lib top clock j ins outs n m cause
more_named s lib top clock j found ins outs (fault.Loop n) m named cause = more_loop s lib top clock j ins outs n m cause
more_named s lib top clock j found ins outs (fault.NotTheClock place) m named cause =
    let (q, pin, at, on, off) = cause in named place q pin on at
more_named s lib top clock j found ins outs (fault.ClockAsData n) m named cause =
    let (odd, reads, tree) = cause in more_data s lib top clock j ins outs n odd m reads tree
more_named s lib top clock j found ins outs (fault.Limit kind number) m named cause = tt
more_named s lib top clock j found ins outs fault.Memory m named cause = tt

-- the law
pub all_named : (s : Source) (lib : Library) (top : Module) → IsLawful s → IsLawfulLibrary lib.cells → IsLawfulModule s top → Contains s.modules top
    → AreFine s lib (flat_of s lib top) → (clock : Option (List ℕ)) (items : List CutItem) (one : Bool) (j : FlatNetlist) (k : Circuit) (f : CircuitFault)
    → IsJudged one (netlist_of (record { source = s; items = items }) lib top clock) j → IsExtended (flat_of s lib top).scopes j.circuit k → IsCause k f
    → HasName j.found (flat_of s lib top) k f
all_named s lib top lawful cells is there fine clock items one j k f judged more cause =
    let some : 1 ≤ length s.modules = omega (arith, there.1) in
    let n : FlatNetlist = netlist_of (record { source = s; items = items }) lib top clock in
    let m : IsMoreBelow s lib top clock j.circuit more.ins more.outs = record {
      refused = record {
        known = record { whole = flat_whole s lib top some lawful is; fine = fine };
        ports = ports_below s top clock is;
        lawful = circuit_lawful s lib top lawful cells is fine clock;
      };
      thin = judged_thin one n j judged;
      nets = record { of_ins = more.ins_there; of_outs = more.outs_there };
    } in
    let named : AreClockedNamed j.found j.circuit = λ place q pin on at.
    judged_leaf one n j place q pin judged on at (λ here. clocked_named s lib top clock place q pin on here) in
    subst (λ (x : Circuit). HasName j.found (flat_of s lib top) x f) (sym more.is)
    (more_named s lib top clock j.circuit j.found more.ins more.outs f m named (subst (λ (x : Circuit). IsCause x f) more.is cause))
