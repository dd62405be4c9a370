-- Claims that hold whatever the design's logic does.
use Rattle.std.proofs.Common.{◌≡◌, ℕ, ◌-◌, ◌≤◌, Bool, false, not, List, Some, ap, subst, sym, ◌∙◌, arith, inl, inr}
use Rattle.std.specs.Prelude.{slice_get}
use Rattle.std.proofs.lemmas.Bool.{le-ltb}
use Rattle.std.proofs.lemmas.Option.{slice_get-get_or}
use Rattle.net_model.specs.Netlist.{setting_inputs, held_inputs}
use Rattle.net_model.specs.Cycles.{bit_at, IsRun, HasFixed, HasResets}
use Rattle.net_model.specs.Judge.{judged_count, start_bit, Toggles, IsViolatedAt, Holds}
use Rattle.net_model.specs.Held.{IsHeldStart}
use Rattle.net_model.proofs.Settling.{All-at}
use Rattle.net_model.proofs.Members.{In, In-from_Contains, Contains-from_In, In-cases, from_map}
use Rattle.net_model.specs.declared.netlist.Design.{Design}
use Rattle.net_model.specs.declared.netlist.Fixed.{Fixed}
use Rattle.net_model.specs.declared.cycles.Cycle.{Cycle}
use Rattle.net_model.specs.declared.claims.Claim.{Claim}
use Rattle.sdcv_base.specs.declared.kinds.Edge.{Edge}
use Rattle.net_model.specs.declared.claims.Start.{Start}
use Rattle.net_model.specs.declared.claims.Start.TheVariants.{Reg as RegStart, Input as InputStart}

-- an input with a setting has its value
setting_of : (settings : List Fixed) (i : ℕ) → In i (setting_inputs settings) → (k : ℕ) × (s : Fixed) × (slice_get settings k ≡ Some s) × (s.input ≡ i)
setting_of settings i has =
    let found = from_map (λ (s : Fixed). s.input) i settings has in
    let there = Contains-from_In settings found.0 found.1 in
    (there.0, found.0, slice_get-get_or settings there.0 found.0 there.1 ∙ ap Some there.2, found.2)

-- a start that is fixed or reset has one bit in all live cycles
pub held_same : (d : Design) (start : Start) (run : List Cycle) (t u : ℕ) (a b : Cycle) → IsHeldStart d start → IsRun d run → d.reset_len ≤ t
    → d.reset_len ≤ u → slice_get run t ≡ Some a → slice_get run u ≡ Some b → start_bit start a ≡ start_bit start b
held_same d (RegStart r) run t u a b held is low less at then = absurd held
held_same d (InputStart i) run t u a b held is low less at then =
    elim (In-cases i (setting_inputs d.fixed) (setting_inputs d.resets) (In-from_Contains (held_inputs d) i held)) [
      | inl fixed ↦
          let s = setting_of d.fixed i fixed in
          let value : (x : Cycle) → HasFixed d x → bit_at x.ins i ≡ s.1.value =
          λ x has. subst (λ (j : ℕ). bit_at x.ins j ≡ s.1.value) s.3 (All-at (λ (f : Fixed). bit_at x.ins f.input ≡ f.value) d.fixed s.0 s.1 s.2 has) in
          value a (All-at (HasFixed d) run t a at is.linked.fixed) ∙ sym (value b (All-at (HasFixed d) run u b then is.linked.fixed))
      | inr reset ↦
          let s = setting_of d.resets i reset in
          let value : (k : ℕ) (x : Cycle) → d.reset_len ≤ k → slice_get run k ≡ Some x → bit_at x.ins i ≡ not s.1.value =
          λ k x live there.
          let inactive : HasResets d false x = subst (λ (active : Bool). HasResets d active x) (le-ltb k d.reset_len live) (is.resets k x there) in
          subst (λ (j : ℕ). bit_at x.ins j ≡ not s.1.value) s.3 (All-at (λ (f : Fixed). bit_at x.ins f.input ≡ not f.value) d.resets s.0 s.1 s.2 inactive) in
          value t a low at ∙ sym (value u b less then)
    ]

-- a start that is fixed or reset never toggles
pub held_never_toggles : (d : Design) (edge : Edge) (start : Start) (run : List Cycle) (t : ℕ) (stale : Bool) → IsHeldStart d start → IsRun d run
    → ¬ Toggles d.reset_len edge start run t stale
held_never_toggles d edge start run t stale held is toggles =
    let same = held_same d start run t (t - 1) toggles.now toggles.before held is (omega (arith, toggles.is_live))
    (omega (arith, toggles.is_live)) toggles.now_at toggles.before_at in
    toggles.differs (same ∙ toggles.stale_is)

-- so a claim with such a start holds
pub held_holds : (d : Design) (claim : Claim) → IsHeldStart d claim.start → Holds d claim
held_holds d claim held run t is violated =
    held_never_toggles d claim.edge claim.start run t violated.stale held is violated.toggles

-- a claim that judges no capture is nowhere violated
pub unjudged_never_violated : (live : ℕ) (d : Design) (claim : Claim) (run : List Cycle) (t : ℕ) → judged_count claim ≡ 0
    → ¬ IsViolatedAt live d claim run t
unjudged_never_violated live d claim run t none violated = absurd (omega (arith, violated.judged, none))

-- so it holds
pub unjudged_holds : (d : Design) (claim : Claim) → judged_count claim ≡ 0 → Holds d claim
unjudged_holds d claim none run t is violated = unjudged_never_violated d.reset_len d claim run t none violated
