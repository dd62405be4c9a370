-- A run that is violated has one that answers the base query of the offset, and one without such answers is not.
use Rattle.std.proofs.Common.{◌≡◌, ℕ, ◌+◌, ◌<◌, ◌≤◌, Bool, false, List, length, Some, subst, sym, ◌∙◌, arith}
use Rattle.std.specs.Prelude.{slice_get, nat_lt, All}
use Rattle.std.proofs.lemmas.Bool.{le-ltb}
use Rattle.std.proofs.lemmas.Option.{slice_get_within}
use Rattle.net_model.proofs.Settling.{All-at}
use Rattle.net_model.specs.Netlist.{IsSound}
use Rattle.net_model.specs.Cycles.{IsRun, HasResets}
use Rattle.net_model.specs.Judge.{judged_count}
use Rattle.net_model.specs.Judge.{IsViolatedAt}
use Rattle.net_model.proofs.Stretches.{window, slice_get-window, length-window, IsLinked-window}
use Rattle.net_model.specs.declared.netlist.Design.{Design}
use Rattle.net_model.specs.declared.cycles.Cycle.{Cycle}
use Rattle.net_model.specs.declared.claims.Claim.{Claim}
use Rattle.net_model.specs.declared.invariants.InvClause.{InvClause}
use Rattle.net_model.specs.declared.queries.Phase.TheVariants.{Base}
use Rattle.net_model.specs.Queries.{IsAnswer, claim_query}
use Rattle.verdicts.specs.Offsets.{HoldsAtOffset}
use Rattle.verdicts.proofs.Shifting.{GoesAlong, violated_along}
use Rattle.verdicts.proofs.Extending.{goes_on}

-- the first cycles of a run are a run
pub IsRun-window : (d : Design) (run : List Cycle) (m : ℕ) → 0 < m → m ≤ length run → IsRun d run → IsRun d (window 0 m run)
IsRun-window d run m some long is =
    record {
      linked = IsLinked-window d run 0 m some (omega (arith, long)) is.linked;
      resets = λ t c at.
          let low : t < m = omega (arith, slice_get_within (window 0 m run) t c at, length-window 0 m run (omega (arith, long))) in
          let e : 0 + t ≡ t = omega arith in
          is.resets t c (subst (λ (i : ℕ). slice_get run i ≡ Some c) e (sym (slice_get-window 0 m t run low) ∙ at));
    }

-- in a stretch resets are inactive, as a query has it of cycles that are all live
pub inactive_in : (d : Design) (stretch : List Cycle) → All (HasResets d false) stretch → (t : ℕ) (c : Cycle) → slice_get stretch t ≡ Some c
    → HasResets d (nat_lt t 0) c
inactive_in d stretch inactive t c at =
    let off : false ≡ nat_lt t 0 = sym (le-ltb t 0 (omega arith)) in
    subst (λ (active : Bool). HasResets d active c) off (All-at (HasResets d false) stretch t c at inactive)

-- a run that is violated at an offset has a run that answers the base query
pub base_answer : (d : Design) (claim : Claim) (kept : List InvClause) (offset : ℕ) (run : List Cycle) → IsSound d → IsRun d run
    → IsViolatedAt d.reset_len d claim run (d.reset_len + 1 + offset) → (answer : List Cycle) × IsAnswer (claim_query d claim Base offset kept) answer
base_answer d claim kept offset run sound is v =
    let n = d.reset_len in
    let e = judged_count claim in
    let count = n + offset + 1 + e in
    let within = slice_get_within run (n + 1 + offset) v.toggles.now v.toggles.now_at in
    let longer = goes_on d run e sound is (omega (arith, within)) in
    let more = longer.0 in
    let fits : 0 + count ≤ length more = omega (arith, within, longer.1.long) in
    let along : GoesAlong (n + offset) (n + offset) (1 + e) run (window 0 count more) =
    λ i c low at.
    let there = longer.1.same (n + offset + i) c at in
    let e : n + offset + i ≡ 0 + (n + offset + i) = omega arith in
    slice_get-window 0 count (n + offset + i) more (omega (arith, low)) ∙ subst (λ (j : ℕ). slice_get more j ≡ Some c) e there in
    let toggle : n + 1 + offset ≡ n + offset + 1 = omega arith in
    let is_window = IsRun-window d more count (omega arith) (omega (arith, fits)) longer.1.is_run in (
      window 0 count more,
      record {
        cycles = record { linked = is_window.linked; resets = is_window.resets; count = length-window 0 count more fits };
        kept = λ t c clause low at has. absurd (omega (arith, low));
        asked = (
          λ o low. absurd (omega (arith, low)),
          subst (λ (t : ℕ). IsViolatedAt n d claim (window 0 count more) t) (sym toggle)
              (violated_along d claim run (window 0 count more) n n (n + offset) (n + offset) (omega arith) along
              (subst (λ (t : ℕ). IsViolatedAt n d claim run t) toggle v)),
        );
      },
    )

-- where the base query has no answer, no run is violated at its offset, however long it is
pub holds_at : (d : Design) (claim : Claim) (kept : List InvClause) (offset : ℕ) → IsSound d
    → ((run : List Cycle) → ¬ IsAnswer (claim_query d claim Base offset kept) run) → HoldsAtOffset d claim offset
holds_at d claim kept offset sound none run is v =
    let answer = base_answer d claim kept offset run sound is v in none answer.0 answer.1
