-- How rows get their ranks, one row after another.
use Rattle.std.proofs.Common.{arith, ◌≡◌, ◌∙◌, ◌<◌, ◌+◌, ◌++◌, ap, sym, refl, true, false, Bool, ℕ, List, [], ◌∷◌, map, take, drop, drop-cons, take-suc, add-one, append_assoc, get_or, length, count_by}
use Rattle.std.proofs.lemmas.List.Sums.{sum_by_push}
use mathlib.Core.List.{map-append}
use Rattle.std.specs.Prelude.{cond, if◌then◌else◌}
use Rattle.std.specs.Str.{bytes_eq}
use Rattle.std.proofs.lemmas.Slice.Eq.{bytes_eq-Decides}
use Rattle.report_rows.specs.declared.reports.PairRow.{PairRow}
use Rattle.report_groups.specs.Counts.{Counted, count_in, IsCountedOnce, AreCountsOf}
use Rattle.report_groups.specs.Marks.{alike_text, ranked_after}

-- one key more, which comes last
counted_last : (keys : List (List ℕ)) (key : List ℕ) (old new : Counted) → AreCountsOf keys old → IsCountedOnce old key new → AreCountsOf (keys ++ key ∷ []) new
counted_last keys key old new are once q = by (bytes_eq key q) refl
  where
    all : count_by (λ other. bytes_eq other q) (keys ++ key ∷ []) ≡ count_by (λ other. bytes_eq other q) keys + cond (bytes_eq key q) 1 0
    all = sum_by_push (λ other. cond (bytes_eq other q) 1 0) keys key

    had : ℕ
    had = count_by (λ other. bytes_eq other q) keys

    step : (b : Bool) → bytes_eq key q ≡ b → count_in new q ≡ (if b then count_in old key + 1 else count_in old q)
    step b e = once q ∙ ap (λ (b : Bool). if b then count_in old key + 1 else count_in old q) e

    counted : (b : Bool) → bytes_eq key q ≡ b → count_by (λ other. bytes_eq other q) (keys ++ key ∷ []) ≡ had + cond b 1 0
    counted b e = all ∙ ap (λ (b : Bool). had + cond b 1 0) e

    more : had + 1 ≡ had + cond true 1 0
    more = refl

    none : had ≡ had + cond false 1 0
    none = omega arith

    by : (b : Bool) → bytes_eq key q ≡ b → count_in new q ≡ count_by (λ other. bytes_eq other q) (keys ++ key ∷ [])
    by true e = step true e ∙ ap (λ n. n + 1) (ap (count_in old) ((bytes_eq-Decides key q).0 e) ∙ are q) ∙ more ∙ sym (counted true e)
    by false e = step false e ∙ are q ∙ none ∙ sym (counted false e)

-- the rows before the next one
taken : (rows : List PairRow) (i : ℕ) (r : PairRow) → i < length rows → r ≡ get_or rows i r → take (i + 1) rows ≡ take i rows ++ r ∷ []
taken rows i r below at = ap (λ n. take n rows) (add-one i) ∙ take-suc rows i r below ∙ ap (λ (x : PairRow). take i rows ++ x ∷ []) (sym at)

-- the keys of the rows so far are counted, with one row more
pub counts_next : (verdicts : Bool) (rows : List PairRow) (i : ℕ) (r : PairRow) (key : List ℕ) (old new : Counted)
    → i < length rows → r ≡ get_or rows i r
    → key ≡ alike_text verdicts r → AreCountsOf (map (alike_text verdicts) (take i rows)) old → IsCountedOnce old key new
    → AreCountsOf (map (alike_text verdicts) (take (i + 1) rows)) new
counts_next verdicts rows i r key old new below at is are once q =
    counted_last (map (alike_text verdicts) (take i rows)) key old new are once q
    ∙ ap (λ (k : List ℕ). count_by (λ other. bytes_eq other q) (map (alike_text verdicts) (take i rows) ++ k ∷ [])) is
    ∙ ap (λ (ks : List (List ℕ)). count_by (λ other. bytes_eq other q) ks)
    (sym (ap (map (alike_text verdicts)) (taken rows i r below at) ∙ map-append (alike_text verdicts) (take i rows) (r ∷ [])))

ranked_after-cons : (verdicts : Bool) (before : List PairRow) (r : PairRow) (rs : List PairRow)
    → ranked_after verdicts before (r ∷ rs)
    ≡ record r { number = count_by (λ other. bytes_eq other (alike_text verdicts r)) (map (alike_text verdicts) before) }
    ∷ ranked_after verdicts (before ++ r ∷ []) rs
unfolding ranked_after
ranked_after-cons verdicts before r rs = refl

pub ranked_after-nil : (verdicts : Bool) (before : List PairRow) → ranked_after verdicts before [] ≡ []
unfolding ranked_after
ranked_after-nil verdicts before = refl

-- one row more has its rank
pub ranked_more : (verdicts : Bool) (whole all more : List PairRow) (rows : List PairRow) (i : ℕ) (r : PairRow) (rank : ℕ)
    → whole ≡ all ++ ranked_after verdicts (take i rows) (drop i rows) → i < length rows → r ≡ get_or rows i r
    → rank ≡ count_by (λ other. bytes_eq other (alike_text verdicts r)) (map (alike_text verdicts) (take i rows))
    → more ≡ all ++ record r { number = rank } ∷ []
    → whole ≡ more ++ ranked_after verdicts (take (i + 1) rows) (drop (i + 1) rows)
ranked_more verdicts whole all more rows i r rank is below at has added =
    let next : drop i rows ≡ r ∷ drop (i + 1) rows =
    drop-cons rows i r below ∙ ap (λ n. get_or rows i r ∷ drop n rows) (sym (add-one i)) ∙ ap (λ (x : PairRow). x ∷ drop (i + 1) rows) (sym at) in
    is ∙ ap (λ (rs : List PairRow). all ++ ranked_after verdicts (take i rows) rs) next
    ∙ ap (λ (rs : List PairRow). all ++ rs) (ranked_after-cons verdicts (take i rows) r (drop (i + 1) rows))
    ∙ ap (λ (n : ℕ). all ++ record r { number = n } ∷ ranked_after verdicts (take i rows ++ r ∷ []) (drop (i + 1) rows)) (sym has)
    ∙ ap (λ (rs : List PairRow). all ++ record r { number = rank } ∷ ranked_after verdicts rs (drop (i + 1) rows)) (sym (taken rows i r below at))
    ∙ sym (append_assoc all (record r { number = rank } ∷ []) _)
    ∙ ap (λ (rs : List PairRow). rs ++ ranked_after verdicts (take (i + 1) rows) (drop (i + 1) rows)) (sym added)
