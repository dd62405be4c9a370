-- The bits in front of a run's cycles, one after another.
use Rattle.std.proofs.Common.{◌≡◌, ◌≢◌, ℕ, zero, suc, ◌<◌, ◌+◌, ◌-◌, ◌==◌, Bool, true, false, if◌then◌else◌, List, Some, refl, ap, sym, ◌∙◌, subst, arith, inl, inr}
use Rattle.std.specs.Prelude.{◌↔◌, slice_get, nat_lt}
use Rattle.std.proofs.lemmas.Bool.{lt-ltb, le-ltb, cases_lt, ne_eqb}
use Rattle.std.proofs.lemmas.Option.{same_Some}
use Rattle.net_model.specs.Cycles.{bit_at, capture, IsRun}
use Rattle.net_model.specs.Judge.{judged_count, start_bit}
use Rattle.net_model.specs.declared.netlist.Design.{Design}
use Rattle.net_model.specs.declared.cycles.Cycle.{Cycle}
use Rattle.net_model.specs.declared.claims.Claim.{Claim}
use Rattle.claim_monitor.specs.Fronts.{sizes_of, live_place, reset_place, start_place, toggle_place, early_place, HasToggle, DiffersFlipped, IsFront}
use Rattle.claim_monitor.specs.Shown.{is_live}
use Rattle.claim_monitor.specs.Tells.{IsFirstFront, IsNextFront}
use Rattle.claim_monitor.proofs.Toggling.{toggled_tells, toggled_told}

-- tests of numbers one up
test_up : (m n : ℕ) → nat_lt (m + 1) (n + 1) ≡ nat_lt m n
test_up m n =
    elim (cases_lt m n) [
      | inl low ↦ lt-ltb (m + 1) (n + 1) (omega arith) ∙ sym (lt-ltb m n low)
      | inr high ↦ le-ltb (m + 1) (n + 1) (omega arith) ∙ sym (le-ltb m n high)
    ]

-- no toggle is at 0
none_first : (d : Design) (claim : Claim) (run : List Cycle) (t : ℕ) → t ≡ 0 → ¬ HasToggle d claim run t
none_first d claim run t at has = absurd (omega (arith, has.1.is_live))

bit_apart : (b : Bool) → b ≡ false → b ≢ true
bit_apart b off on = let e : true ≡ false = sym on ∙ off in cc

-- at the first cycle they show it
pub front_begun : (d : Design) (claim : Claim) (run : List Cycle) (c : Cycle) (x : List Bool) → slice_get run 0 ≡ Some c
    → IsFirstFront d (sizes_of d claim) c x → IsFront d claim run 0 c x
front_begun d claim run c x at first =
    let s = sizes_of d claim in
    record {
      at = at;
      count = first.count;
      inputs = first.inputs;
      regs = first.regs;
      resets = λ i low. first.rest (reset_place s i) (omega arith) ∙ sym (le-ltb i 0 (omega arith));
      was_live = first.rest (live_place s) (omega arith) ∙ sym (le-ltb d.reset_len 0 (omega arith));
      starts = λ h before low early. absurd (omega arith);
      toggles = λ k low. (
        λ yes. absurd (bit_apart (bit_at x (toggle_place s k)) (first.rest (toggle_place s k) (omega arith)) yes),
        λ has. absurd (none_first d claim run (0 - (k + 1)) (omega arith) has),
      );
      captured = λ before is positive. absurd (omega arith);
      early = λ before is positive. absurd (omega arith);
    }

live_next : (d : Design) (claim : Claim) (run : List Cycle) (t : ℕ) (c : Cycle) (x : List Bool) → IsFront d claim run t c x
    → is_live (sizes_of d claim) x ≡ nat_lt d.reset_len (t + 1)
live_next d claim run t c x front = by d.reset_len refl
  where
    by : (n : ℕ) → d.reset_len ≡ n → is_live (sizes_of d claim) x ≡ nat_lt d.reset_len (t + 1)
    by zero none =
        ap (λ (n : ℕ). if n == 0 then true else bit_at x (reset_place (sizes_of d claim) (n - 1))) none
        ∙ sym (ap (λ (n : ℕ). nat_lt n (t + 1)) none ∙ lt-ltb 0 (t + 1) (omega arith))
    by (suc k) some =
        let apart : (suc k == 0) ≡ false = ne_eqb (suc k) 0 (omega arith) in
        let back : suc k - 1 ≡ k = omega arith in
        let up : suc k ≡ k + 1 = omega arith in
        ap (λ (n : ℕ). if n == 0 then true else bit_at x (reset_place (sizes_of d claim) (n - 1))) some
        ∙ (ap (λ (b : Bool). if b then true else bit_at x (reset_place (sizes_of d claim) (suc k - 1))) apart
        ∙ (ap (λ (n : ℕ). bit_at x (reset_place (sizes_of d claim) n)) back
        ∙ (front.resets k (omega arith)
        ∙ (sym (test_up k t) ∙ ap (λ (n : ℕ). nat_lt n (t + 1)) (sym up ∙ sym some)))))

-- at a next cycle they show it where the latches took what they take
pub front_goes_on : (d : Design) (claim : Claim) (run : List Cycle) (t : ℕ) (c next : Cycle) (x y : List Bool) → IsRun d run
    → IsFront d claim run t c x → slice_get run (t + 1) ≡ Some next → IsNextFront d claim (sizes_of d claim) x c next y
    → IsFront d claim run (t + 1) next y
front_goes_on d claim run t c next x y is front at on =
    let s = sizes_of d claim in
    let here : t + 1 - 1 ≡ t = omega arith in
    record {
      at = at;
      count = on.count;
      inputs = on.inputs;
      regs = λ r low. on.regs r low ∙ sym (is.linked.next t c next front.at at r low);
      resets = resets;
      was_live = on.was_live ∙ live_next d claim run t c x front;
      starts = starts;
      toggles = λ k low.
          let place : t + 1 - (k + 1) ≡ t - k = omega arith in (
            λ yes. subst (HasToggle d claim run) (sym place) (toggled_tells d claim run t c x k (omega arith) front (sym (on.toggles k low) ∙ yes)),
            λ has. on.toggles k low ∙ toggled_told d claim run t c x k (omega arith) front (subst (HasToggle d claim run) place has),
          );
      captured = λ before has positive was.
          let same : c ≡ before = same_Some c before (sym front.at ∙ (ap (slice_get run) (sym here) ∙ was)) in
          on.captured has ∙ ap (capture d claim.end) same;
      early = λ before has positive was.
          let same : c ≡ before = same_Some c before (sym front.at ∙ (ap (slice_get run) (sym here) ∙ was)) in
          subst (λ (z : Cycle). (bit_at y (early_place s) ≡ true) ↔ DiffersFlipped d claim z) same (on.early has);
    }
  where
    resets : (i : ℕ) → i < d.reset_len → bit_at y (reset_place (sizes_of d claim) i) ≡ nat_lt i (t + 1)
    resets zero low = on.first_reset low ∙ sym (lt-ltb 0 (t + 1) (omega arith))
    resets (suc i) low =
        let up : suc i ≡ i + 1 = omega arith in
        ap (λ (n : ℕ). bit_at y (reset_place (sizes_of d claim) n)) up
        ∙ (on.resets i (omega arith) ∙ (front.resets i (omega arith) ∙ (sym (test_up i t) ∙ ap (λ (n : ℕ). nat_lt n (t + 1)) (sym up))))

    starts : (h : ℕ) (before : Cycle) → h < judged_count claim → h < t + 1 → slice_get run (t + 1 - 1 - h) ≡ Some before
        → bit_at y (start_place (sizes_of d claim) h) ≡ start_bit claim.start before
    starts zero before low early was =
        let place : t + 1 - 1 - 0 ≡ t = omega arith in
        let same : c ≡ before = same_Some c before (sym front.at ∙ (ap (slice_get run) (sym place) ∙ was)) in
        on.first_start low ∙ ap (start_bit claim.start) same
    starts (suc h) before low early was =
        let up : suc h ≡ h + 1 = omega arith in
        let place : t - 1 - h ≡ t + 1 - 1 - suc h = omega arith in
        ap (λ (n : ℕ). bit_at y (start_place (sizes_of d claim) n)) up
        ∙ (on.starts h (omega arith) ∙ front.starts h before (omega arith) (omega arith) (ap (slice_get run) place ∙ was))
