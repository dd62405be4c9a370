-- A circuit has one order of its clock gates, and one design with them over one design without.
use Rattle.std.proofs.Common.{◌≡◌, ℕ, ◌<◌, Bool, false, List, map, length, get_or, refl, ap, subst, sym, ◌∙◌, arith, inl, inr}
use Rattle.std.specs.Prelude.{Contains, Option, Some, Result, Ok, Err, slice_get, slice_index_or}
use Rattle.std.proofs.lemmas.List.{same_lists}
use Rattle.std.proofs.lemmas.Option.{same_Some, slice_get-get_or}
use Rattle.net_model.specs.declared.netlist.Gate.{Gate}
use Rattle.net_model.proofs.Members.{In, In-from_Contains, Contains-from_In, from_flat}
use Rattle.graph_order.specs.Orders.{order_of}
use Rattle.graph_order.proofs.Marked.{contains_at}
use Rattle.icg_rewrite.specs.declared.clock_gates.Gated.{Gated}
use Rattle.icg_rewrite.proofs.Lists.{item_at}
use Rattle.link_defs.specs.declared.circuits.Circuit.{Circuit}
use Rattle.link_defs.specs.declared.circuits.Part.{Part}
use Rattle.link_defs.specs.declared.circuits.Part.TheVariants as part
use Rattle.link_defs.specs.Circuits.{clock_of, OnTree}
use Rattle.link_defs.specs.Above.{Under}
use Rattle.link_defs.specs.GateOrders.{ClockPart, clock_parts, no_clock_part, AreGateNeeds, IsGateOrderOf}
use Rattle.link_defs.specs.GatedDesigns.{Flop, part_flop, flops_of, IsGatedOf}
use Rattle.link_gates.proofs.Standing.{tree_is_under}
use Rattle.link_gates.proofs.GatePlaces.{part_of_gate, part_at}

-- the clock pin of each register and each clock gate is on the clock
abbrev pub AreClocked : Circuit → Type 0
AreClocked c = (p : Part) (clock : ℕ) → Contains c.parts p → clock_of p ≡ Some clock → OnTree c clock false

-- lists of one length that have the same at each place are one
same_at_places : {X : Type 0} (xs ys : List X) → length xs ≡ length ys → ((k : ℕ) → k < length xs → slice_get xs k ≡ slice_get ys k) → xs ≡ ys
same_at_places xs ys long same =
    same_lists xs ys long (λ k d low.
    let at_y = slice_get-get_or ys k d (omega (arith, low, long)) in
    same_Some (get_or xs k d) (get_or ys k d) (sym (slice_get-get_or xs k d low) ∙ same k low ∙ at_y))

-- a part whose register this is has its nets
flop_of : (p : Part) (x : Flop) → In x (part_flop p) → p ≡ part.Flop x.clock x.reg
flop_of (part.Comb buffer ins gates) x has = absurd has
flop_of (part.Flop clock reg) x (inl here) = ap (λ (y : Flop). part.Flop y.clock y.reg) here
flop_of (part.Flop clock reg) x (inr later) = absurd later
flop_of (part.Gate clock enables out) x has = absurd has

-- the clock pin of a clock gate stands below a clock gate or below none
pub gate_under : (c : Circuit) → AreClocked c → (x : ClockPart) → Contains c.parts (part.Gate x.clock x.enables x.out) → (up : Option ℕ) × Under c x.clock up
gate_under c clocked x stands = tree_is_under c x.clock false (clocked (part.Gate x.clock x.enables x.out) x.clock stands refl)

-- so does that of a register
pub flop_under : (c : Circuit) → AreClocked c → (r : ℕ) (x : Flop) → slice_get (flops_of c) r ≡ Some x → (up : Option ℕ) × Under c x.clock up
flop_under c clocked r x at =
    let (p, stands, own) = from_flat part_flop x c.parts (In-from_Contains (flops_of c) x (contains_at (flops_of c) r x at)) in
    let is : p ≡ part.Flop x.clock x.reg = flop_of p x own in
    tree_is_under c x.clock false (clocked p x.clock (Contains-from_In c.parts p stands) (ap clock_of is))

-- what the clock gates need is one row
pub needs_same : (c : Circuit) → AreClocked c → (one other : List (List ℕ)) → AreGateNeeds c one → AreGateNeeds c other → one ≡ other
needs_same c clocked one other first second =
    same_at_places one other (first.long ∙ sym second.long) (λ k low.
    let (x, at) = item_at (clock_parts c) k (omega (arith, low, first.long)) in
    let (up, on) = gate_under c clocked x (part_of_gate c k x at) in first.each k x up at on ∙ sym (second.each k x up at on))

-- so their order is one
pub order_same : (c : Circuit) → AreClocked c → (one other : List ClockPart) → IsGateOrderOf c one → IsGateOrderOf c other → one ≡ other
order_same c clocked one other first second =
    let needs = needs_same c clocked first.needs second.needs first.needed second.needed in
    let both : (let r : Result (List ℕ) ℕ = Ok first.places in r) ≡ Ok second.places = sym first.found ∙ ap order_of needs ∙ second.found in
    let places : first.places ≡ second.places = ap (λ (r : Result (List ℕ) ℕ). elim r [ Ok found ↦ found | Err place ↦ first.places ]) both in
    first.is ∙ ap (map (λ (place : ℕ). slice_index_or (clock_parts c) place no_clock_part)) places ∙ sym second.is

-- designs with one order of clock gates have the same clock gates
gates_same : (c : Circuit) (x y : List Bool) (order : List Gate) (gates : List ClockPart) → AreClocked c → (one other : Gated)
    → IsGatedOf c x order gates one → IsGatedOf c y order gates other → one.gates ≡ other.gates
gates_same c x y order gates clocked one other first second =
    same_at_places one.gates other.gates (first.long ∙ sym second.long) (λ k low.
    let (gate, at) = item_at gates k (omega (arith, low, first.long)) in
    let (up, on) = gate_under c clocked gate (part_at c gates first.ordered k gate at) in
    first.gates_are k gate up at on ∙ sym (second.gates_are k gate up at on))

-- and their registers stand behind the same
behind_same : (c : Circuit) (x y : List Bool) (order : List Gate) (gates : List ClockPart) → AreClocked c → (one other : Gated)
    → IsGatedOf c x order gates one → IsGatedOf c y order gates other → one.of ≡ other.of
behind_same c x y order gates clocked one other first second =
    same_at_places one.of other.of (first.each ∙ sym second.each) (λ r low.
    let (flop, at) = item_at (flops_of c) r (omega (arith, low, first.each)) in
    let (up, on) = flop_under c clocked r flop at in first.behind r flop up at on ∙ sym (second.behind r flop up at on))

-- so over one design there is one with clock gates
pub gated_same : (c : Circuit) (x y : List Bool) (order : List Gate) (gates others : List ClockPart) → AreClocked c → (one other : Gated)
    → IsGatedOf c x order gates one → IsGatedOf c y order others other → one.design ≡ other.design → one ≡ other
gated_same c x y order gates others clocked one other first second design =
    let ordered = order_same c clocked gates others first.ordered second.ordered in
    let moved : IsGatedOf c y order gates other = subst (λ (xs : List ClockPart). IsGatedOf c y order xs other) (sym ordered) second in
    let parts = gates_same c x y order gates clocked one other first moved in
    let behind = behind_same c x y order gates clocked one other first moved in
    λ i. record { design = design i; gates = parts i; of = behind i }
