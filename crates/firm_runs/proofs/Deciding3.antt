-- What the tests of three values decide.
use Rattle.std.proofs.Common.{◌≡◌, ℕ, ◌+◌, ◌-◌, ◌<◌, ◌≤◌, Bool, true, false, List, length, min, Some, refl, sym, ◌∙◌, subst, arith}
use Rattle.std.specs.Prelude.{IsTrue, ◌↔◌, slice_get}
use Rattle.std.proofs.lemmas.Option.{slice_get_within, same_Some}
use Rattle.net_model.specs.Netlist.{IsSound}
use Rattle.net_model.specs.Fits.{IsEndIn}
use Rattle.net_model.specs.Judge.{judged_count}
use Rattle.net_model.specs.Ternary.{tern_of}
use Rattle.net_model.specs.declared.netlist.Design.{Design}
use Rattle.net_model.specs.declared.cycles.Stimulus.{Stimulus}
use Rattle.net_model.specs.declared.claims.Claim.{Claim}
use Rattle.net_model.specs.declared.terns.Tern.{Tern}
use Rattle.firm_runs.specs.Frees.{IsSink}
use Rattle.firm_runs.specs.Cycles3.{start_value, capture3, IsKnownRun}
use Rattle.firm_runs.specs.Layers3.{IsLateCapture3}
use Rattle.firm_runs.specs.Firm.{AreApart, DiffersLate3, Changes3, IsKnownChange, IsBad3, IsKnownViolated, IsShownFirm}
use Rattle.firm_runs.proofs.Late3.{late_once3}
use Rattle.firm_runs.proofs.Runs3.{run_once3}
use Rattle.firm_runs.specs.declared.free_bits.FreeBits.{FreeBits}
use Rattle.firm_runs.specs.declared.cycles.Cycle3.{Cycle3}

-- nothing is found where it does not hold
pub none_found : {P : Type 0} → ¬ P → (false ≡ true) ↔ P
none_found none = (λ e. cc, λ p. absurd (none p))

-- it is found where it holds
pub some_found : {P : Type 0} → P → (true ≡ true) ↔ P
some_found p = (λ e. p, λ q. refl)

pub true_false : true ≡ false → ⊥
true_false e = cc

pub late_decided : (d : Design) (claim : Claim) (c : Cycle3) (stale : Bool) (late captured : Tern) (test : Bool) → IsSound d → IsEndIn d claim.end
    → IsLateCapture3 d claim c stale late → captured ≡ capture3 d claim.end c → (IsTrue test ↔ AreApart late captured)
    → IsTrue test ↔ DiffersLate3 d claim c stale
late_decided d claim c stale late captured test sound end_ is is_captured tells = (
  λ yes. (late, is, subst (AreApart late) is_captured (tells.0 yes)),
  λ w. tells.1 (subst (AreApart late) (sym is_captured)
      (subst (λ (x : Tern). AreApart x (capture3 d claim.end c)) (late_once3 d claim c stale w.0 late sound end_ w.1 is) w.2)),
)

pub change_decided : (d : Design) (claim : Claim) (before c : Cycle3) (captured earlier : Tern) (test : Bool) → captured ≡ capture3 d claim.end c
    → earlier ≡ capture3 d claim.end before → (IsTrue test ↔ AreApart captured earlier) → IsTrue test ↔ Changes3 d claim before c
change_decided d claim before c captured earlier test is was tells =
    subst (λ (x : Tern). IsTrue test ↔ AreApart x (capture3 d claim.end before)) is (subst (λ (y : Tern). IsTrue test ↔ AreApart captured y) was tells)

-- the cycle after r more cycles is known to be bad
pub record IsBadAt3 (d : Design) (claim : Claim) (run : List Cycle3) (t : ℕ) (stale : Bool) (r : ℕ) : Type 0 where
  pub before : Cycle3
  pub c : Cycle3
  pub before_at : slice_get run (t + r - 1) ≡ Some before
  pub c_at : slice_get run (t + r) ≡ Some c
  pub bad : IsBad3 claim.early d claim stale before c

pub bad_gives3 : (d : Design) (claim : Claim) (run : List Cycle3) (t : ℕ) (stale : Bool) (r : ℕ) (before c : Cycle3)
    → slice_get run (t + r - 1) ≡ Some before → slice_get run (t + r) ≡ Some c → IsBadAt3 d claim run t stale r
    → IsBad3 claim.early d claim stale before c
bad_gives3 d claim run t stale r before c before_at c_at bad =
    let first : bad.before ≡ before = same_Some bad.before before (sym bad.before_at ∙ before_at) in
    let second : bad.c ≡ c = same_Some bad.c c (sym bad.c_at ∙ c_at) in
    subst (λ (x : Cycle3). IsBad3 claim.early d claim stale before x) second
    (subst (λ (x : Cycle3). IsBad3 claim.early d claim stale x bad.c) first bad.bad)

-- what is known of a run is not violated beyond its end
pub not_in_run : (d : Design) (claim : Claim) (run : List Cycle3) (t : ℕ) → length run ≤ t → ¬ IsKnownViolated d claim run t
not_in_run d claim run t le v = omega (arith, slice_get_within run t v.toggles.now v.toggles.now_at)

-- the change at a toggle is the one of the two cycles of the run
change_at : (d : Design) (claim : Claim) (run : List Cycle3) (t : ℕ) (before now : Cycle3) (v : IsKnownViolated d claim run t)
    → slice_get run (t - 1) ≡ Some before → slice_get run t ≡ Some now
    → IsKnownChange claim.edge (start_value claim.start before) (start_value claim.start now) v.stale
change_at d claim run t before now v before_at now_at =
    let first : v.toggles.before ≡ before = same_Some v.toggles.before before (sym v.toggles.before_at ∙ before_at) in
    let second : v.toggles.now ≡ now = same_Some v.toggles.now now (sym v.toggles.now_at ∙ now_at) in
    subst (λ (x : Cycle3). IsKnownChange claim.edge (start_value claim.start before) (start_value claim.start x) v.stale) second
    (subst (λ (x : Cycle3). IsKnownChange claim.edge (start_value claim.start x) (start_value claim.start v.toggles.now) v.stale) first v.toggles.change)

pub not_changed : (d : Design) (claim : Claim) (run : List Cycle3) (t : ℕ) (before now : Cycle3) (x y : Tern) → slice_get run (t - 1) ≡ Some before
    → slice_get run t ≡ Some now → x ≡ start_value claim.start before → y ≡ start_value claim.start now
    → ((stale : Bool) → ¬ IsKnownChange claim.edge x y stale) → ¬ IsKnownViolated d claim run t
not_changed d claim run t before now x y before_at now_at x_is y_is none v =
    none v.stale
    (subst (λ (z : Tern). IsKnownChange claim.edge x z v.stale) (sym y_is)
    (subst (λ (z : Tern). IsKnownChange claim.edge z (start_value claim.start now) v.stale) (sym x_is) (change_at d claim run t before now v before_at now_at)))

tern_of_once : (a b : Bool) → tern_of a ≡ tern_of b → a ≡ b
tern_of_once true true e = refl
tern_of_once false false e = refl
tern_of_once true false e = cc
tern_of_once false true e = cc

-- a known change that the run has at a toggle
pub record IsChangeAt (d : Design) (claim : Claim) (run : List Cycle3) (t : ℕ) (stale : Bool) : Type 0 where
  pub before : Cycle3
  pub now : Cycle3
  pub before_at : slice_get run (t - 1) ≡ Some before
  pub now_at : slice_get run t ≡ Some now
  pub change : IsKnownChange claim.edge (start_value claim.start before) (start_value claim.start now) stale

pub change_made : (d : Design) (claim : Claim) (run : List Cycle3) (t : ℕ) (before now : Cycle3) (x y : Tern) (stale : Bool)
    → slice_get run (t - 1) ≡ Some before → slice_get run t ≡ Some now → x ≡ start_value claim.start before → y ≡ start_value claim.start now
    → IsKnownChange claim.edge x y stale → IsChangeAt d claim run t stale
change_made d claim run t before now x y stale before_at now_at x_is y_is change =
    record {
      before = before;
      now = now;
      before_at = before_at;
      now_at = now_at;
      change =
          subst (λ (z : Tern). IsKnownChange claim.edge (start_value claim.start before) z stale) y_is
          (subst (λ (z : Tern). IsKnownChange claim.edge z y stale) x_is change);
    }

pub violated_from3 : (d : Design) (claim : Claim) (run : List Cycle3) (t : ℕ) (stale : Bool) (r : ℕ) → d.reset_len < t → IsChangeAt d claim run t stale
    → r < judged_count claim → IsBadAt3 d claim run t stale r → IsKnownViolated d claim run t
violated_from3 d claim run t stale r is_live at judged bad =
    record {
      stale = stale;
      toggles =
          record {
            before = at.before;
            now = at.now;
            before_at = at.before_at;
            now_at = at.now_at;
            is_live = omega arith;
            change = at.change;
          };
      r = r;
      judged = judged;
      before = bad.before;
      c = bad.c;
      before_at = bad.before_at;
      c_at = bad.c_at;
      bad = bad.bad;
    }

pub none_bad3 : (d : Design) (claim : Claim) (run : List Cycle3) (t : ℕ) (stale : Bool) (count : ℕ)
    → count ≡ min (judged_count claim) (length run - t) → IsChangeAt d claim run t stale → ((q : ℕ) → q < count → ¬ IsBadAt3 d claim run t stale q)
    → ¬ IsKnownViolated d claim run t
none_bad3 d claim run t stale count is at none v =
    let change = change_at d claim run t at.before at.now v at.before_at at.now_at in
    let same : v.stale ≡ stale = tern_of_once v.stale stale (sym change.stale_is ∙ at.change.stale_is) in
    let within = slice_get_within run (t + v.r) v.c v.c_at in
    none v.r (omega (arith, v.judged, within, is))
    (record {
      before = v.before;
      c = v.c;
      before_at = v.before_at;
      c_at = v.c_at;
      bad = subst (λ (bit : Bool). IsBad3 claim.early d claim bit v.before v.c) same v.bad;
    })

-- what is shown firm is decided on the one run
pub firm_decided : (d : Design) (free : FreeBits) (claim : Claim) (s : Stimulus) (t : ℕ) (run : List Cycle3) (test : Bool) → IsSound d
    → IsKnownRun d free s run → ¬ IsSink free claim.end → (IsTrue test ↔ IsKnownViolated d claim run t) → IsTrue test ↔ IsShownFirm d free claim s t
firm_decided d free claim s t run test sound known no_sink tells = (
  λ yes. record { run = run; known = known; violated = tells.0 yes; no_sink = no_sink },
  λ shown. tells.1 (subst (λ (other : List Cycle3). IsKnownViolated d claim other t) (run_once3 d free s shown.run run sound shown.known known) shown.violated),
)

-- a run that is too short shows nothing
pub not_long : (d : Design) (free : FreeBits) (claim : Claim) (s : Stimulus) (t : ℕ) → length s.inputs ≤ t → ¬ IsShownFirm d free claim s t
not_long d free claim s t le shown = not_in_run d claim shown.run t (omega (arith, shown.known.count)) shown.violated
