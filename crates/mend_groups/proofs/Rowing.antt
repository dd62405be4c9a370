-- The pairs of an exception, a pair at a time.
use Rattle.std.proofs.Common.{arith, ◌≡◌, ◌∙◌, ℕ, zero, suc, ◌+◌, ◌-◌, ◌<◌, ◌≤◌, min, Bool, List, [], ◌∷◌, ◌++◌, length, refl, sym, ap, append_assoc, append-nil, inl, inr}
use Rattle.std.specs.Prelude.{Option, Some, None, slice_get}
use Rattle.std.proofs.lemmas.Bool.{cases_lt}
use Rattle.std.proofs.lemmas.Option.{slice_get_past}
use Rattle.net_model.specs.declared.claims.Claim.{Claim}
use Rattle.selected_types.specs.declared.selections.PairLine.{PairLine}
use Rattle.selected_types.specs.declared.selections.Selected.{Selected}
use Rattle.verdict_types.specs.declared.outcomes.Verdict.{Verdict}
use Rattle.mend_groups.specs.declared.ports.Ports.{Ports}
use Rattle.mend_groups.specs.declared.rows.Row.{Row}
use Rattle.mend_groups.specs.Rows.{row_by, row_if, row_at, rows_from}

-- without a verdict there is no pair
row_none : (ports : Ports) (spelled : Bool) (place : ℕ) (pair : Option PairLine) (claim : Option Claim) → row_if ports spelled place pair claim None ≡ []
row_none ports spelled place None claim = refl
row_none ports spelled place (Some p) None = refl
row_none ports spelled place (Some p) (Some claim) = refl

-- past the last verdict none is left
pub rows_past : (ports : Ports) (spelled : Bool) (s : Selected) (verdicts : List Verdict) (place n : ℕ) → length verdicts ≤ place
    → rows_from ports spelled s verdicts place n ≡ []
unfolding rows_from
rows_past ports spelled s verdicts place zero past = refl
rows_past ports spelled s verdicts place (suc n) past =
    let none : row_at ports spelled s verdicts place ≡ [] =
    ap (row_if ports spelled place (slice_get s.pairs place) (slice_get s.claims place)) (slice_get_past verdicts place past)
    ∙ row_none ports spelled place (slice_get s.pairs place) (slice_get s.claims place) in
    ap (λ (rows : List Row). rows ++ rows_from ports spelled s verdicts (place + 1) n) none ∙ rows_past ports spelled s verdicts (place + 1) n (omega arith)

-- the pair at a place that has one
row_there : (ports : Ports) (spelled : Bool) (s : Selected) (verdicts : List Verdict) (place : ℕ) (pair : PairLine) (claim : Claim) (verdict : Verdict)
    → slice_get s.pairs place ≡ Some pair → slice_get s.claims place ≡ Some claim → slice_get verdicts place ≡ Some verdict
    → row_at ports spelled s verdicts place ≡ row_by ports spelled place pair claim verdict ∷ []
row_there ports spelled s verdicts place pair claim verdict paired claimed found =
    ap (λ (o : Option PairLine). row_if ports spelled place o (slice_get s.claims place) (slice_get verdicts place)) paired
    ∙ ap (λ (o : Option Claim). row_if ports spelled place (Some pair) o (slice_get verdicts place)) claimed
    ∙ ap (λ (o : Option Verdict). row_if ports spelled place (Some pair) (Some claim) o) found

-- a pair, and then the others
rows_next : (ports : Ports) (spelled : Bool) (s : Selected) (verdicts : List Verdict) (place n : ℕ) → 0 < n
    → rows_from ports spelled s verdicts place n ≡ row_at ports spelled s verdicts place ++ rows_from ports spelled s verdicts (place + 1) (n - 1)
unfolding rows_from
rows_next ports spelled s verdicts place zero some = absurd (omega (arith, some))
rows_next ports spelled s verdicts place (suc n) some =
    ap (λ (m : ℕ). row_at ports spelled s verdicts place ++ rows_from ports spelled s verdicts (place + 1) m) (omega arith)

-- a pair more is found
pub row_more : (ports : Ports) (spelled : Bool) (s : Selected) (verdicts : List Verdict) (place all : ℕ) (rows new whole : List Row)
    (pair : PairLine) (claim : Claim) (verdict : Verdict) (r : Row) → place < all → slice_get s.pairs place ≡ Some pair → slice_get s.claims place ≡ Some claim
    → slice_get verdicts place ≡ Some verdict → r ≡ row_by ports spelled place pair claim verdict → new ≡ rows ++ r ∷ []
    → rows ++ rows_from ports spelled s verdicts place (all - place) ≡ whole → new ++ rows_from ports spelled s verdicts (place + 1) (all - (place + 1)) ≡ whole
row_more ports spelled s verdicts place all rows new whole pair claim verdict r low paired claimed found is pushed before =
    let rest : List Row = rows_from ports spelled s verdicts (place + 1) (all - (place + 1)) in
    let fewer : all - place - 1 ≡ all - (place + 1) = omega arith in
    let there : row_at ports spelled s verdicts place ≡ r ∷ [] =
    row_there ports spelled s verdicts place pair claim verdict paired claimed found ∙ ap (λ (x : Row). x ∷ []) (sym is) in
    let next : rows_from ports spelled s verdicts place (all - place) ≡ (r ∷ []) ++ rest =
    rows_next ports spelled s verdicts place (all - place) (omega arith)
    ∙ ap (λ (m : ℕ). row_at ports spelled s verdicts place ++ rows_from ports spelled s verdicts (place + 1) m) fewer
    ∙ ap (λ (xs : List Row). xs ++ rest) there in
    ap (λ (xs : List Row). xs ++ rest) pushed ∙ append_assoc rows (r ∷ []) rest ∙ ap (λ (xs : List Row). rows ++ xs) (sym next) ∙ before

-- all pairs are found
pub rows_over : (ports : Ports) (spelled : Bool) (s : Selected) (verdicts : List Verdict) (place all : ℕ) (rows whole : List Row)
    → min all (length verdicts) ≤ place → rows ++ rows_from ports spelled s verdicts place (all - place) ≡ whole → rows ≡ whole
unfolding rows_from
rows_over ports spelled s verdicts place all rows whole past before =
    let none : rows_from ports spelled s verdicts place (all - place) ≡ [] =
    elim (cases_lt place (length verdicts)) as (λ z. rows_from ports spelled s verdicts place (all - place) ≡ []) [
      | inl low ↦ let over : all - place ≡ 0 = omega arith in ap (rows_from ports spelled s verdicts place) over
      | inr high ↦ rows_past ports spelled s verdicts place (all - place) high
    ] in
    sym (append-nil rows) ∙ ap (λ (xs : List Row). rows ++ xs) (sym none) ∙ before

-- where no verdict is, one place is as good as another
pub rows_capped : (ports : Ports) (spelled : Bool) (s : Selected) (verdicts : List Verdict) (here place n : ℕ) → here ≡ min place (length verdicts)
    → rows_from ports spelled s verdicts here n ≡ rows_from ports spelled s verdicts place n
rows_capped ports spelled s verdicts here place n capped =
    elim (cases_lt place (length verdicts)) as (λ z. rows_from ports spelled s verdicts here n ≡ rows_from ports spelled s verdicts place n) [
      | inl low ↦ let same : here ≡ place = omega arith in ap (λ (k : ℕ). rows_from ports spelled s verdicts k n) same
      | inr high ↦
          let all : length verdicts ≤ here = omega arith in
          rows_past ports spelled s verdicts here n all ∙ sym (rows_past ports spelled s verdicts place n high)
    ]
