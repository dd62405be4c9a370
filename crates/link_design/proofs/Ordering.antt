-- The gates of a circuit whose nets each have one driver.
use Rattle.std.proofs.Common.{◌≡◌, ℕ, ◌<◌, ◌≤◌, ◌==◌, nat_lt, Bool, true, false, List, ◌++◌, length, All, ap, subst, sym, ◌∙◌, arith}
use Rattle.std.specs.Prelude.{Contains, slice_index_or, count_by, flat_map, Ok}
use Rattle.graph_order.specs.Orders.{order_of}
use Rattle.std.proofs.lemmas.Bool.{and_parts}
use Rattle.std.proofs.lemmas.Bool.Decides.{nat_tests}
use Rattle.std.proofs.lemmas.List.Elements.{All-append}
use Rattle.std.proofs.lemmas.Option.{get_or_from_slice_get}
use Rattle.net_model.specs.Netlist.{AllBelow, gate_nets}
use Rattle.net_model.proofs.Members.{In, In-from_Contains}
use Rattle.net_model.specs.declared.netlist.Gate.{Gate}
use Rattle.graph_order.proofs.Marked.{at_contains, contains_at, count_append, counted_contains}
use Rattle.link_defs.specs.declared.circuits.Circuit.{Circuit}
use Rattle.link_defs.specs.Circuits.{part_gated, all_gates, all_drivers, all_reads, IsOnCycle}
use Rattle.link_defs.specs.Designs.{number_by, gate_needs}
use Rattle.link_design.specs.declared.faults.CircuitFault.{CircuitFault}
use Rattle.link_design.specs.declared.faults.CircuitFault.TheVariants as fault
use Rattle.link_design.specs.Faults.{IsCause}
use Rattle.link_design.specs.Lawful.{IsLawfulCircuit}
use Rattle.link_design.specs.Lists.{data_sources, all_sources, all_marks}
use Rattle.link_design.specs.Made.{IsOrdered}
use Rattle.link_design.specs.Orders.{IsWired, IsGateOrder}
use Rattle.link_design.specs.Rows.{IsDriverRow, IsTwice, is_driven}
use Rattle.link_design.proofs.DriverPlaces.{number_within, number_at, counted_at}
use Rattle.link_design.proofs.Parted.{drivers_are, sources_below, gates_below, gate_reads, reads_below, all_in, all_from_in}

-- the lists that are made of a circuit
pub record IsListed (c : Circuit) (gates : List Gate) (sources drivers : List ℕ) : Type 0 where
  pub gates_are : gates ≡ all_gates c
  pub sources_are : sources ≡ all_sources c
  pub drivers_are : drivers ≡ sources ++ gate_nets gates

spelled : (c : Circuit) (gates : List Gate) (sources drivers : List ℕ) → IsListed c gates sources drivers → drivers ≡ all_sources c
    ++ gate_nets (all_gates c)
spelled c gates sources drivers is =
    is.drivers_are ∙ ap (λ (ns : List ℕ). ns ++ gate_nets gates) is.sources_are
    ∙ ap (λ (gs : List Gate). all_sources c ++ gate_nets gs) is.gates_are

-- a list that has each net as often as the circuit has drivers of it
abbrev pub AreDriversOf : Circuit → List ℕ → Type 0
AreDriversOf c drivers = (net : ℕ) → count_by (λ m. m == net) drivers ≡ count_by (λ m. m == net) (all_drivers c)

-- clock gates before the gates are as many as behind them
counted_same : (xs gates gated : List ℕ) (net : ℕ) → count_by (λ m. m == net) (xs ++ gated ++ gates) ≡ count_by (λ m. m == net) (xs ++ gates ++ gated)
counted_same xs gates gated net =
    omega (
      arith,
      count_append (λ m. m == net) (xs ++ gated) gates,
      count_append (λ m. m == net) xs gated,
      count_append (λ m. m == net) (xs ++ gates) gated,
      count_append (λ m. m == net) xs gates,
    )

-- they are the drivers of the circuit, in another order
pub listed : (c : Circuit) (gates : List Gate) (sources drivers : List ℕ) → IsListed c gates sources drivers → AreDriversOf c drivers
listed c gates sources drivers is = λ net.
    ap (λ (ns : List ℕ). count_by (λ m. m == net) ns) (spelled c gates sources drivers is)
    ∙ counted_same (c.clocks ++ data_sources c) (gate_nets (all_gates c)) (flat_map part_gated c.parts) net
    ∙ ap (λ (ns : List ℕ). count_by (λ m. m == net) ns) (drivers_are c)

-- what is as often in one list as in another is contained in both
counted_has : (xs ys : List ℕ) (net : ℕ) → count_by (λ m. m == net) xs ≡ count_by (λ m. m == net) ys → Contains xs net → Contains ys net
counted_has xs ys net same has =
    let (k, at) = at_contains xs net has in counted_contains net ys (omega (arith, same, counted_at xs net k at))

pub listed_below : (c : Circuit) (gates : List Gate) (sources drivers : List ℕ) → IsLawfulCircuit c → IsListed c gates sources drivers → AllBelow c.nets drivers
listed_below c gates sources drivers lawful is = subst (λ (ns : List ℕ). AllBelow c.nets ns) (sym (spelled c gates sources drivers is))
    (All-append (λ (n : ℕ). n < c.nets) (all_sources c) (gate_nets (all_gates c)) (sources_below c lawful) (gates_below c lawful))

-- a net of two drivers is one of the circuit
pub twice_cause : (c : Circuit) (drivers : List ℕ) (e : CircuitFault) → AreDriversOf c drivers → IsTwice drivers e → IsCause c e
twice_cause c drivers (fault.ManyDrivers net) same twice = omega (arith, same net, twice)
twice_cause c drivers fault.Memory same twice = tt
twice_cause c drivers (fault.Undriven net) same twice = absurd twice
twice_cause c drivers (fault.Loop net) same twice = absurd twice
twice_cause c drivers (fault.NotTheClock place) same twice = absurd twice
twice_cause c drivers (fault.ClockAsData net) same twice = absurd twice
twice_cause c drivers (fault.Limit kind number) same twice = absurd twice

test_holds : (row : List ℕ) (count net : ℕ) → net < length row → slice_index_or row net 0 < count → is_driven row count net ≡ true
test_holds row count net within less = grind (arith, nat_tests)

test_says : (a b : ℕ) → nat_lt a b ≡ true → a < b
test_says a b e = grind (arith, nat_tests)

no_test : (b : Bool) → b ≡ true → b ≡ false → ⊥
no_test b hit miss = cc

-- a net without a driver by the row has none
pub undriven_is : (c : Circuit) (drivers row : List ℕ) (net : ℕ) → IsLawfulCircuit c → AreDriversOf c drivers → IsDriverRow drivers c.nets row
    → Contains (all_reads c) net
    → is_driven row (length drivers) net ≡ false → Contains (all_drivers c) net → ⊥
undriven_is c drivers row net lawful same is read none has =
    let (k, at) = at_contains drivers net (counted_has (all_drivers c) drivers net (sym (same net)) has) in
    let less = number_within drivers net k at in
    let within : net < c.nets = all_in (λ (n : ℕ). n < c.nets) (all_reads c) (reads_below c lawful) net (In-from_Contains (all_reads c) net read) in
    let shown = get_or_from_slice_get row net (number_by drivers net) 0 (is.at net within) in
    no_test (is_driven row (length drivers) net) (test_holds row (length drivers) net (omega (arith, is.len)) (omega (arith, shown))) none

-- a net with one has one
driven_is : (c : Circuit) (drivers row : List ℕ) (net : ℕ) → IsLawfulCircuit c → AreDriversOf c drivers → IsDriverRow drivers c.nets row → In net (all_reads c)
    → is_driven row (length drivers) net ≡ true → Contains (all_drivers c) net
driven_is c drivers row net lawful same is read hit =
    let (_in, low) = and_parts (nat_lt net (length row)) (nat_lt (slice_index_or row net 0) (length drivers)) hit in
    let within : net < c.nets = all_in (λ (n : ℕ). n < c.nets) (all_reads c) (reads_below c lawful) net read in
    let shown = get_or_from_slice_get row net (number_by drivers net) 0 (is.at net within) in
    let less = test_says (slice_index_or row net 0) (length drivers) low in
    counted_has drivers (all_drivers c) net (same net) (contains_at drivers (number_by drivers net) net (number_at drivers net (omega (arith, shown))))

pub all_driven : (c : Circuit) (drivers row reads : List ℕ) → IsLawfulCircuit c → AreDriversOf c drivers → IsDriverRow drivers c.nets row → reads ≡ all_reads c
    → All (λ net. is_driven row (length drivers) net ≡ true) reads → All (Contains (all_drivers c)) (all_reads c)
all_driven c drivers row reads lawful same is reads_are hit =
    all_from_in (Contains (all_drivers c)) (all_reads c) (λ net has. driven_is c drivers row net lawful same is has
    (all_in (λ (n : ℕ). is_driven row (length drivers) n ≡ true) (all_reads c)
    (subst (λ (ns : List ℕ). All (λ (n : ℕ). is_driven row (length drivers) n ≡ true) ns) reads_are hit) net has))

-- the row wires the gates
pub wired : (c : Circuit) (gates : List Gate) (sources drivers row : List ℕ) → IsLawfulCircuit c → IsListed c gates sources drivers
    → IsDriverRow drivers c.nets row
    → ((net : ℕ) → count_by (λ m. m == net) drivers ≤ 1) → IsWired gates sources row
wired c gates sources drivers row lawful is row_is once = record {
  row_is = subst (λ (n : ℕ). IsDriverRow (sources ++ gate_nets gates) n row) (sym row_is.len)
      (subst (λ (ns : List ℕ). IsDriverRow ns c.nets row) is.drivers_are row_is);
  once = λ net. subst (λ (ns : List ℕ). count_by (λ m. m == net) ns ≤ 1) is.drivers_are (once net);
  ins = subst (λ (n : ℕ). All (λ (g : Gate). AllBelow n g.ins) gates) (sym row_is.len)
      (subst (λ (gs : List Gate). All (λ (g : Gate). AllBelow c.nets g.ins) gs) (sym is.gates_are)
      (all_from_in (λ (g : Gate). AllBelow c.nets g.ins) (all_gates c) (λ g has. gate_reads c lawful g has)));
  outs = subst (λ (n : ℕ). AllBelow n (gate_nets gates)) (sym row_is.len)
      (subst (λ (gs : List Gate). AllBelow c.nets (gate_nets gs)) (sym is.gates_are) (gates_below c lawful));
}

pub ordered_is : (c : Circuit) (gates : List Gate) (marks : List Bool) (order sources drivers row reads : List ℕ) → IsLawfulCircuit c
    → IsListed c gates sources drivers → IsDriverRow drivers c.nets row
    → ((net : ℕ) → count_by (λ m. m == net) drivers ≤ 1) → marks ≡ all_marks c → reads ≡ all_reads c
    → All (λ net. is_driven row (length drivers) net ≡ true) reads → IsGateOrder gates order → order_of (gate_needs gates) ≡ Ok order
    → ((net : ℕ) → IsOnCycle gates net → ⊥) → IsOrdered c (record { gates = gates; marks = marks; order = order })
ordered_is c gates marks order sources drivers row reads lawful is row_is once marks_are reads_are driven right found acyclic = record {
  gates = is.gates_are;
  marks = marks_are;
  once = λ net. omega (arith, listed c gates sources drivers is net, once net);
  driven = all_driven c drivers row reads lawful (listed c gates sources drivers is) row_is reads_are driven;
  order = subst (λ (gs : List Gate). IsGateOrder gs order) is.gates_are right;
  found = subst (λ (gs : List Gate). order_of (gate_needs gs) ≡ Ok order) is.gates_are found;
  acyclic = λ net on. acyclic net (subst (λ (gs : List Gate). IsOnCycle gs net) (sym is.gates_are) on);
}
