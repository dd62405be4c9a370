-- Captures that are judged of a toggle, and bad or not.
use Rattle.std.proofs.Common.{◌≡◌, ℕ, ◌+◌, ◌-◌, ◌<◌, Bool, true, false, List, length, min, Some, sym, ◌∙◌, subst, refl, arith, below_more}
use Rattle.std.specs.Prelude.{slice_get, IsTrue, ◌↔◌}
use Rattle.std.proofs.lemmas.Option.{slice_get_within, same_Some}
use Rattle.net_model.specs.Judge.{judged_count, start_bit, IsBadOn, IsViolatedAt}
use Rattle.net_model.specs.declared.netlist.Design.{Design}
use Rattle.net_model.specs.declared.cycles.Cycle.{Cycle}
use Rattle.net_model.specs.declared.claims.Claim.{Claim}
use Rattle.run_views.specs.Violations.{IsBadAfter}

-- what a test of a judged capture found of this toggle
pub record IsTested (d : Design) (claim : Claim) (run : List Cycle) (toggle r : ℕ) (bad : Bool) : Type 0 where
  pub stale : Cycle
  pub before : Cycle
  pub now : Cycle
  pub stale_at : slice_get run (toggle - 1) ≡ Some stale
  pub before_at : slice_get run (toggle + r - 1) ≡ Some before
  pub now_at : slice_get run (toggle + r) ≡ Some now
  pub means : IsTrue bad ↔ IsBadOn claim.early claim.hazard d claim (start_bit claim.start stale) before now

pub tested : (d : Design) (claim : Claim) (run : List Cycle) (toggle r : ℕ) (bad stale : Bool) (first before now : Cycle)
    → slice_get run (toggle - 1) ≡ Some first → slice_get run (toggle + r - 1) ≡ Some before → slice_get run (toggle + r) ≡ Some now
    → stale ≡ start_bit claim.start first → (IsTrue bad ↔ IsBadOn claim.early claim.hazard d claim stale before now)
    → IsTested d claim run toggle r bad
tested d claim run toggle r bad stale first before now first_at before_at now_at stale_is means = record {
  stale = first;
  before = before;
  now = now;
  stale_at = first_at;
  before_at = before_at;
  now_at = now_at;
  means = subst (λ (s : Bool). IsTrue bad ↔ IsBadOn claim.early claim.hazard d claim s before now) stale_is means;
}

true_false : true ≡ false → ⊥
true_false e = cc

-- a capture that was tested is bad only if the test says so
pub not_bad : (d : Design) (claim : Claim) (run : List Cycle) (toggle r : ℕ) (bad : Bool) → IsTested d claim run toggle r bad → bad ≡ false
    → ¬ IsBadAfter d claim run toggle r
not_bad d claim run toggle r bad test is w =
    let first : w.stale ≡ test.stale = same_Some w.stale test.stale (sym w.stale_at ∙ test.stale_at) in
    let second : w.before ≡ test.before = same_Some w.before test.before (sym w.before_at ∙ test.before_at) in
    let third : w.now ≡ test.now = same_Some w.now test.now (sym w.now_at ∙ test.now_at) in
    let one = subst (λ (x : Cycle). IsBadOn claim.early claim.hazard d claim (start_bit claim.start x) w.before w.now) first w.bad in
    let two = subst (λ (x : Cycle). IsBadOn claim.early claim.hazard d claim (start_bit claim.start test.stale) x w.now) second one in
    let three = subst (λ (x : Cycle). IsBadOn claim.early claim.hazard d claim (start_bit claim.start test.stale) test.before x) third two in
    true_false (sym (test.means.1 three) ∙ is)

pub none_more : (d : Design) (claim : Claim) (run : List Cycle) (toggle r : ℕ) → ((q : ℕ) → q < r → ¬ IsBadAfter d claim run toggle q)
    → ¬ IsBadAfter d claim run toggle r → (q : ℕ) → q < r + 1 → ¬ IsBadAfter d claim run toggle q
none_more d claim run toggle r none here = below_more (λ q. ¬ IsBadAfter d claim run toggle q) r none here

pub bad_here : (d : Design) (claim : Claim) (run : List Cycle) (toggle r : ℕ) → IsTested d claim run toggle r true → r < judged_count claim
    → IsBadAfter d claim run toggle r
bad_here d claim run toggle r test judged = record {
  judged = judged;
  stale = test.stale;
  before = test.before;
  now = test.now;
  stale_at = test.stale_at;
  before_at = test.before_at;
  now_at = test.now_at;
  bad = test.means.0 refl;
}

-- where no judged capture is bad, the claim is not violated at the toggle
pub not_violated : (d : Design) (claim : Claim) (run : List Cycle) (toggle live count : ℕ) → count ≡ min (judged_count claim) (length run - toggle)
    → ((q : ℕ) → q < count → ¬ IsBadAfter d claim run toggle q) → ¬ IsViolatedAt live d claim run toggle
not_violated d claim run toggle live count is none v =
    let within = slice_get_within run (toggle + v.r) v.c v.c_at in
    none v.r (omega (arith, v.judged, within, is))
    (record {
      judged = v.judged;
      stale = v.toggles.before;
      before = v.before;
      now = v.c;
      stale_at = v.toggles.before_at;
      before_at = v.before_at;
      now_at = v.c_at;
      bad = subst (λ (s : Bool). IsBadOn claim.early claim.hazard d claim s v.before v.c) (sym v.toggles.stale_is) v.bad;
    })
