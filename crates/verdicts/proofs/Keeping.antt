-- Clauses of an inductive set hold in every live cycle of every run.
use Rattle.std.proofs.Common.{◌≡◌, ℕ, ◌+◌, ◌-◌, ◌<◌, ◌≤◌, true, false, List, length, Some, subst, sym, ◌∙◌, arith, inl}
use Rattle.std.proofs.Common.{inr}
use Rattle.std.specs.Prelude.{slice_get, Contains}
use Rattle.std.proofs.lemmas.Bool.{cases_lt, cases_Bool}
use Rattle.std.proofs.lemmas.Option.{slice_get_within, same_Some}
use Rattle.std.proofs.lemmas.List.Elements.{All-take}
use Rattle.net_model.specs.Cycles.{IsRun, IsStretch, HasResets}
use Rattle.net_model.proofs.Stretches.{window, slice_get-window, length-window, IsStretch-window, IsLinked-window}
use Rattle.net_model.specs.declared.netlist.Design.{Design}
use Rattle.net_model.specs.declared.cycles.Cycle.{Cycle}
use Rattle.net_model.specs.declared.invariants.InvClause.{InvClause}
use Rattle.net_model.specs.declared.queries.Phase.TheVariants.{Base, Step}
use Rattle.net_model.specs.Queries.{IsAnswer, clause_query, clause_holds}
use Rattle.verdicts.specs.Inductive.{AreAlwaysMet, IsMetFirst, IsMetNext, IsInductive}
use Rattle.verdicts.proofs.Cutting.{IsRun-window, inactive_in}
use Rattle.verdicts.proofs.Inducting.{by_smaller}

-- live cycle i of every run meets each clause of a set
abbrev pub AreMetAt : Design → List InvClause → ℕ → Type 0
AreMetAt d set i =
    (clause : InvClause) (run : List Cycle) (c : Cycle) → Contains set clause → IsRun d run → slice_get run (d.reset_len + i) ≡ Some c
    → clause_holds c clause ≡ true

-- a live cycle after as many live cycles as the depth
pub met_later : (d : Design) (depth : ℕ) (set : List InvClause) (i : ℕ) → IsInductive d depth set → depth ≤ i → ((k : ℕ) → k < i → AreMetAt d set k)
    → AreMetAt d set i
met_later d depth set i inductive deep before clause run c has is at =
    let n = d.reset_len in
    let s = n + (i - depth) in
    let within = slice_get_within run (n + i) c at in
    let fits : s + (depth + 1) ≤ length run = omega (arith, within, deep) in
    let part = window s (depth + 1) run in
    let stretch : IsStretch d part = IsStretch-window d run s (depth + 1) (omega arith) fits (omega arith) is in
    let last : slice_get part depth ≡ Some c =
    let e : n + i ≡ s + depth = omega (arith, deep) in
    slice_get-window s (depth + 1) depth run (omega arith) ∙ subst (λ (j : ℕ). slice_get run j ≡ Some c) e at in
    inductive.next clause has part c stretch last
    (λ k b low there member inside.
    let e : s + k ≡ n + (i - depth + k) = omega arith in
    before (i - depth + k) (omega (arith, low, deep)) member run b inside is
    (subst (λ (j : ℕ). slice_get run j ≡ Some b) e (sym (slice_get-window s (depth + 1) k run (omega (arith, low))) ∙ there)))

-- the clauses of an inductive set hold in every live cycle of every run
pub always_met : (d : Design) (depth : ℕ) (set : List InvClause) → IsInductive d depth set → AreAlwaysMet d set
always_met d depth set inductive clause has run t c is live at =
    let each : (i : ℕ) → AreMetAt d set i =
    by_smaller (AreMetAt d set)
    (λ i smaller. elim (cases_lt i depth) [
      | inl low ↦ λ member other x inside from there. inductive.first member inside other i x from low there
      | inr high ↦ met_later d depth set i inductive (omega (arith, high)) smaller
    ]) in
    let e : t ≡ d.reset_len + (t - d.reset_len) = omega (arith, live) in
    each (t - d.reset_len) clause run c has is (subst (λ (j : ℕ). slice_get run j ≡ Some c) e at)

-- where no base query of a clause has an answer below a depth, the first live cycles meet it
pub met_first : (d : Design) (against : List InvClause) (clause : InvClause) (depth : ℕ)
    → ((i : ℕ) (run : List Cycle) → i < depth → ¬ IsAnswer (clause_query d against clause Base i) run) → IsMetFirst d depth clause
met_first d against clause depth none run i c is low at =
    let n = d.reset_len in
    let count = n + i + 1 in
    let within = slice_get_within run (n + i) c at in
    elim (cases_Bool (clause_holds c clause)) [
      | inl met ↦ met
      | inr fails ↦
          let part = IsRun-window d run count (omega arith) (omega (arith, within)) is in
          let last : slice_get (window 0 count run) (count - 1) ≡ Some c =
          let e : n + i ≡ 0 + (count - 1) = omega arith in
          slice_get-window 0 count (count - 1) run (omega arith) ∙ subst (λ (j : ℕ). slice_get run j ≡ Some c) e at in
          absurd (none i (window 0 count run) low
          (record {
            cycles = record { linked = part.linked; resets = part.resets; count = length-window 0 count run (omega (arith, within)) };
            kept = λ t x member less there inside. absurd (omega (arith, less));
            asked = λ x there.
                let same : c ≡ x = same_Some c x (sym last ∙ there) in
                subst (λ (y : Cycle). clause_holds y clause ≡ false) same fails;
          }))
    ]

-- the first cycles of a stretch are a stretch
pub IsStretch-cut : (d : Design) (stretch : List Cycle) (m : ℕ) → 0 < m → 0 + m ≤ length stretch → IsStretch d stretch → IsStretch d (window 0 m stretch)
IsStretch-cut d stretch m some fits is =
    record {
      linked = IsLinked-window d stretch 0 m some fits is.linked;
      resets = All-take (HasResets d false) m stretch is.resets;
    }

-- where the step query of a clause against a set has no answer, the set's cycles lead to it
pub met_next : (d : Design) (set : List InvClause) (clause : InvClause) (depth : ℕ)
    → ((stretch : List Cycle) → ¬ IsAnswer (clause_query d set clause Step depth) stretch) → IsMetNext d depth set clause
met_next d set clause depth none stretch c is at before =
    elim (cases_Bool (clause_holds c clause)) [
      | inl met ↦ met
      | inr fails ↦
          let count = 0 + depth + 1 in
          let within = slice_get_within stretch depth c at in
          let fits : 0 + count ≤ length stretch = omega (arith, within) in
          let part = window 0 count stretch in
          let is_part = IsStretch-cut d stretch count (omega arith) fits is in
          let here : (k : ℕ) (x : Cycle) → slice_get part k ≡ Some x → slice_get stretch k ≡ Some x =
          λ k x there.
          let e : 0 + k ≡ k = omega arith in
          let low : k < count = omega (arith, slice_get_within part k x there, length-window 0 count stretch fits) in
          subst (λ (j : ℕ). slice_get stretch j ≡ Some x) e (sym (slice_get-window 0 count k stretch low) ∙ there) in
          absurd (none part
          (record {
            cycles = record { linked = is_part.linked; resets = inactive_in d part is_part.resets; count = length-window 0 count stretch fits };
            kept = λ t x member less there inside. before t x less (here t x there) member inside;
            asked = λ x there.
                let e : count - 1 ≡ depth = omega arith in
                let same : c ≡ x = same_Some c x (sym at ∙ subst (λ (j : ℕ). slice_get stretch j ≡ Some x) e (here (count - 1) x there)) in
                subst (λ (y : Cycle). clause_holds y clause ≡ false) same fails;
          }))
    ]
