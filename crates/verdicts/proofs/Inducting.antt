-- Induction over the offset of a toggle, for all runs.
use Rattle.std.proofs.Common.{◌≡◌, ℕ, zero, suc, ◌+◌, ◌-◌, ◌<◌, ◌≤◌, List, length, Some, subst, sym, ◌∙◌, arith, inl}
use Rattle.std.proofs.Common.{inr}
use Rattle.std.specs.Prelude.{slice_get}
use Rattle.std.proofs.lemmas.Bool.{cases_lt}
use Rattle.std.proofs.lemmas.Option.{slice_get_within}
use Rattle.net_model.specs.Netlist.{IsSound}
use Rattle.net_model.specs.Cycles.{IsRun, IsStretch}
use Rattle.net_model.specs.Judge.{judged_count}
use Rattle.net_model.specs.Judge.{IsViolatedAt, Holds}
use Rattle.net_model.proofs.Stretches.{window, slice_get-window, length-window, IsStretch-window}
use Rattle.net_model.specs.declared.netlist.Design.{Design}
use Rattle.net_model.specs.declared.cycles.Cycle.{Cycle}
use Rattle.net_model.specs.declared.claims.Claim.{Claim}
use Rattle.net_model.specs.declared.invariants.InvClause.{InvClause}
use Rattle.net_model.specs.declared.queries.Phase.TheVariants.{Step}
use Rattle.net_model.specs.Queries.{IsAnswer, claim_query}
use Rattle.verdicts.specs.Offsets.{HoldsAtOffset}
use Rattle.verdicts.specs.Inductive.{AreAlwaysMet}
use Rattle.verdicts.proofs.Shifting.{GoesAlong, violated_along}
use Rattle.verdicts.proofs.Extending.{goes_on}
use Rattle.verdicts.proofs.Cutting.{inactive_in}

-- a fact of each number that follows from that of all smaller ones
pub by_smaller : (P : ℕ → Type 0) → ((n : ℕ) → ((k : ℕ) → k < n → P k) → P n) → (n : ℕ) → P n
by_smaller P step n = step n (below P step n) where
  below : (P : ℕ → Type 0) → ((n : ℕ) → ((k : ℕ) → k < n → P k) → P n) → (n k : ℕ) → k < n → P k
  below P step zero k low = absurd (omega (arith, low))
  below P step (suc n) k low = step k (λ j less. below P step n j (omega (arith, low, less)))

-- the stretch of a run that has its toggle at an offset, from `depth` toggles before on
pub step_answer : (d : Design) (claim : Claim) (kept : List InvClause) (depth offset : ℕ) (run : List Cycle) → IsSound d → AreAlwaysMet d kept
    → depth ≤ offset → IsRun d run → ((o : ℕ) → o < offset → HoldsAtOffset d claim o) → IsViolatedAt d.reset_len d claim run (d.reset_len + 1 + offset)
    → (stretch : List Cycle) × IsAnswer (claim_query d claim Step depth kept) stretch
step_answer d claim kept depth offset run sound met deep is clean v =
    let n = d.reset_len in
    let e = judged_count claim in
    let within = slice_get_within run (n + 1 + offset) v.toggles.now v.toggles.now_at in
    let longer = goes_on d run e sound is (omega (arith, within)) in
    let more = longer.0 in
    let s = n + (offset - depth) in
    let count = 0 + depth + 1 + e in
    let fits : s + count ≤ length more = omega (arith, within, longer.1.long, deep) in
    let part = window s count more in
    let stretch : IsStretch d part = IsStretch-window d more s count (omega arith) fits (omega arith) longer.1.is_run in
    let there : (i : ℕ) (c : Cycle) → slice_get part i ≡ Some c → slice_get more (s + i) ≡ Some c =
    λ i c at. sym (slice_get-window s count i more (omega (arith, slice_get_within part i c at, length-window s count more fits))) ∙ at in
    let along : GoesAlong (n + offset) depth (1 + e) run part =
    λ i c low at.
    slice_get-window s count (depth + i) more (omega (arith, low))
    ∙ subst (λ (j : ℕ). slice_get more j ≡ Some c) (let same : n + offset + i ≡ s + (depth + i) = omega (arith, deep) in same)
    (longer.1.same (n + offset + i) c at) in
    let toggle : n + 1 + offset ≡ n + offset + 1 = omega arith in
    let first : depth + 1 ≡ 0 + 1 + depth = omega arith in (
      part,
      record {
        cycles = record { linked = stretch.linked; resets = inactive_in d part stretch.resets; count = length-window s count more fits };
        kept = λ t c clause low at has. met clause has more (s + t) c longer.1.is_run (omega arith) (there t c at);
        asked = (
          λ o low violated.
              clean (offset - depth + o) (omega (arith, low, deep)) more longer.1.is_run
              (subst (λ (t : ℕ). IsViolatedAt n d claim more t) (let same : s + o + 1 ≡ n + 1 + (offset - depth + o) = omega arith in same)
              (violated_along d claim part more 0 n o (s + o) (omega arith)
              (λ i c less at. subst (λ (j : ℕ). slice_get more j ≡ Some c) (let same : s + (o + i) ≡ s + o + i = omega arith in same) (there (o + i) c at))
              (subst (λ (t : ℕ). IsViolatedAt 0 d claim part t) (let same : 0 + 1 + o ≡ o + 1 = omega arith in same) violated))),
          subst (λ (t : ℕ). IsViolatedAt 0 d claim part t) first
              (violated_along d claim run part n 0 (n + offset) depth (omega arith) along
              (subst (λ (t : ℕ). IsViolatedAt n d claim run t) toggle v)),
        );
      },
    )

-- where no run is violated at the offsets below a depth, and the step query of that depth has no answer, the claim holds
pub holds_by_induction : (d : Design) (claim : Claim) (kept : List InvClause) (depth : ℕ) → IsSound d → AreAlwaysMet d kept
    → ((offset : ℕ) → offset < depth → HoldsAtOffset d claim offset) → ((stretch : List Cycle) → ¬ IsAnswer (claim_query d claim Step depth kept) stretch)
    → Holds d claim
holds_by_induction d claim kept depth sound met base none run t is v =
    let each : (offset : ℕ) → HoldsAtOffset d claim offset =
    by_smaller (HoldsAtOffset d claim)
    (λ offset smaller. elim (cases_lt offset depth) [
      | inl low ↦ base offset low
      | inr high ↦ λ other from violated.
          let answer = step_answer d claim kept depth offset other sound met (omega (arith, high)) from smaller violated in
          none answer.0 answer.1
    ]) in
    let live = v.toggles.is_live in
    let e : t ≡ d.reset_len + 1 + (t - (d.reset_len + 1)) = omega (arith, live) in
    each (t - (d.reset_len + 1)) run is (subst (λ (k : ℕ). IsViolatedAt d.reset_len d claim run k) e v)
