-- No clock gate stands above itself.
use Rattle.std.proofs.Common.{◌≡◌, ℕ, List, [], refl, ap, subst, sym, ◌∙◌, arith, inl, inr}
use Rattle.std.specs.Prelude.{Contains, Option, Some, None, slice_get, ◌⊎◌}
use Rattle.std.proofs.lemmas.Option.{get_or_from_slice_get, same_Some}
use Rattle.graph_order.specs.Needs.{needs_of, LeadsTo, Stay, Go_on, IsOnCycle}
use Rattle.graph_order.proofs.Acyclic.{cycle_within}
use Rattle.graph_order.proofs.Marked.{contains_one}
use Rattle.icg_rewrite.proofs.Lists.{item_at}
use Rattle.link_defs.specs.declared.circuits.Circuit.{Circuit}
use Rattle.link_defs.specs.declared.circuits.Part.TheVariants as part
use Rattle.link_defs.specs.Designs.{number_by}
use Rattle.link_defs.specs.Above.{Under, Root, Buffered, Behind}
use Rattle.link_defs.specs.GateOrders.{ClockPart, clock_parts, gate_outs, place_in, if_any, AreGateNeeds}
use Rattle.link_gates.proofs.GatePlaces.{part_of_gate}
use Rattle.link_gates.proofs.OneGated.{gate_under}
use Rattle.link_gates.proofs.Owners.{IsDrivenOnce, one_clock_gate}
use Rattle.link_design.specs.Made.{IsClocked}
use Rattle.net_link.proofs.ClockParts.{gate_to, are_clocked}

-- a place that leads to another is that one, or leads to something that it needs
last_step : (needs : List (List ℕ)) (a b : ℕ) → LeadsTo needs a b → (a ≡ b) ⊎ ((j : ℕ) × Contains (needs_of needs b) j × LeadsTo needs a j)
last_step needs a b (Stay place) = inl refl
last_step needs a b (Go_on from by to asked back) = elim (last_step needs by to back) [
  | inl same ↦ inr (from, subst (λ (k : ℕ). Contains (needs_of needs k) from) same asked, Stay from)
  | inr more ↦ inr (more.0, more.1, Go_on from by more.0 asked more.2)
]

-- a place on a cycle needs one on a cycle
needs_one : (needs : List (List ℕ)) (place : ℕ) → IsOnCycle needs place → (j : ℕ) × Contains (needs_of needs place) j × IsOnCycle needs j
needs_one needs place on = elim (last_step needs on.by place on.back) [
  | inl same ↦ (place, subst (λ (k : ℕ). Contains (needs_of needs k) place) same on.needed, on)
  | inr more ↦ (more.0, more.1, record { by = place; needed = more.1; back = Go_on place on.by more.0 on.needed more.2 })
]

-- what is needed is the place of the clock gate above
need_from : (gates : List ClockPart) (up : Option ℕ) (need : ℕ) → Contains (if_any (place_in gates up)) need → (out : ℕ) × (up ≡ Some out)
    × (number_by (gate_outs gates) out ≡ need)
need_from gates None need has = absurd (omega (arith, has.1))
need_from gates (Some out) need has = (out, refl, contains_one (number_by (gate_outs gates) out) need has)

-- clock gates that are one have the same clock pin
same_clock : (a b out : ℕ) (xs ys : List ℕ) → part.Gate a xs out ≡ part.Gate b ys out → a ≡ b
same_clock a b out xs ys same = cc

-- a clock gate above a net is on no cycle: what it needs stands above it, nearer to the clock
no_loop : (c : Circuit) (needs : List (List ℕ)) → IsDrivenOnce c → AreGateNeeds c needs → (n : ℕ) (a : Option ℕ) → Under c n a → (place : ℕ) (x : ClockPart)
    → a ≡ Some x.out → slice_get (clock_parts c) place ≡ Some x → IsOnCycle needs place → ⊥
no_loop c needs once needed n a (Root clock has) place x same at cycle = cc
no_loop c needs once needed n a (Buffered from gates g up stands there on) place x same at cycle =
    no_loop c needs once needed from up on place x same at cycle
no_loop c needs once needed n a (Behind clock enables out up stands on) place x same at cycle =
    let here : Contains c.parts (part.Gate clock enables x.out) =
    subst (λ (k : ℕ). Contains c.parts (part.Gate clock enables k)) (same_Some out x.out same) stands in
    let one = one_clock_gate c once clock x.clock enables x.enables x.out here (part_of_gate c place x at) in
    let under : Under c x.clock up = subst (λ (k : ℕ). Under c k up) (same_clock clock x.clock x.out enables x.enables one) on in
    let wants : needs_of needs place ≡ if_any (place_in (clock_parts c) up) =
    get_or_from_slice_get needs place (if_any (place_in (clock_parts c) up)) [] (needed.each place x up at under) in
    let (need, asked, back) = needs_one needs place cycle in
    let (over, above, number) = need_from (clock_parts c) up need (subst (λ (ns : List ℕ). Contains ns need) wants asked) in
    let to = gate_to c once clock over (subst (λ (o : Option ℕ). Under c clock o) above on) in
    no_loop c needs once needed clock up on need to.gate (above ∙ ap (λ (k : ℕ). Some k) (sym to.drives))
    (subst (λ (k : ℕ). slice_get (clock_parts c) k ≡ Some to.gate) (sym to.number ∙ number) to.at) back

-- so no clock gate needs itself
pub acyclic : (c : Circuit) (needs : List (List ℕ)) → IsDrivenOnce c → IsClocked c → AreGateNeeds c needs → (place : ℕ) → IsOnCycle needs place → ⊥
acyclic c needs once clocked needed place cycle =
    let (x, at) = item_at (clock_parts c) place (omega (arith, cycle_within needs place cycle, needed.long)) in
    let stands = part_of_gate c place x at in
    let (up, on) = gate_under c (are_clocked c clocked) x stands in
    no_loop c needs once needed x.out (Some x.out) (Behind x.clock x.enables x.out up stands on) place x refl at cycle
