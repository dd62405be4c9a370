-- The rows of a selection, one at a time.
use Rattle.std.proofs.Common.{◌≡◌, ℕ, ◌+◌, ◌≤◌, List, [], ◌∷◌, ◌++◌, length, drop, ap, ◌∙◌, sym, append_assoc, append-nil}
use Rattle.std.specs.Prelude.{Some, slice_get}
use Rattle.std.proofs.lemmas.List.{drop_all, drop_more}
use Rattle.std.proofs.lemmas.Option.{slice_get_within, get_or_from_slice_get}
use Rattle.net_model.specs.declared.claims.Claim.{Claim}
use Rattle.selected_types.specs.declared.selections.PairLine.{PairLine}
use Rattle.verdict_types.specs.declared.outcomes.Verdict.{Verdict}
use Rattle.report_text.specs.Rows.{each_pair}

-- from a place on a list has the item there, and those after it
drop_next : {A : Type 0} (xs : List A) (k : ℕ) (x : A) → slice_get xs k ≡ Some x → drop k xs ≡ x ∷ drop (k + 1) xs
drop_next xs k x here =
    drop_more xs k x (slice_get_within xs k x here) ∙ ap (λ y. y ∷ drop (k + 1) xs) (get_or_from_slice_get xs k x x here)

-- the rows from a place on are the one there and those after it
pub pairs_next : {B : Type 0} (f : ℕ → PairLine → Claim → Verdict → List B) (n k : ℕ) (ps : List PairLine) (cs : List Claim) (vs : List Verdict)
    (p : PairLine) (c : Claim) (v : Verdict) → slice_get ps k ≡ Some p → slice_get cs k ≡ Some c → slice_get vs k ≡ Some v
    → each_pair f n (drop k ps) (drop k cs) (drop k vs) ≡ f n p c v ++ each_pair f (n + 1) (drop (k + 1) ps) (drop (k + 1) cs) (drop (k + 1) vs)
pairs_next f n k ps cs vs p c v here claimed found =
    ap (λ (l : List PairLine). each_pair f n l (drop k cs) (drop k vs)) (drop_next ps k p here)
    ∙ ap (λ (l : List Claim). each_pair f n (p ∷ drop (k + 1) ps) l (drop k vs)) (drop_next cs k c claimed)
    ∙ ap (λ (l : List Verdict). each_pair f n (p ∷ drop (k + 1) ps) (c ∷ drop (k + 1) cs) l) (drop_next vs k v found)

-- what one row gives follows what the rows before it give
pub row_added : {B : Type 0} (f : ℕ → PairLine → Claim → Verdict → List B) (m k : ℕ) (ps : List PairLine) (cs : List Claim) (vs : List Verdict)
    (p : PairLine) (c : Claim) (v : Verdict) (all now new : List B) → slice_get ps k ≡ Some p → slice_get cs k ≡ Some c → slice_get vs k ≡ Some v
    → m ≡ k + 1 → new ≡ now ++ f m p c v → now ++ each_pair f (k + 1) (drop k ps) (drop k cs) (drop k vs) ≡ all
    → new ++ each_pair f ((k + 1) + 1) (drop (k + 1) ps) (drop (k + 1) cs) (drop (k + 1) vs) ≡ all
row_added {B} f m k ps cs vs p c v all now new here claimed found same turn before =
    let rest : List B = each_pair f ((k + 1) + 1) (drop (k + 1) ps) (drop (k + 1) cs) (drop (k + 1) vs) in
    ap (λ (l : List B). l ++ rest) (turn ∙ ap (λ (i : ℕ). now ++ f i p c v) same) ∙ append_assoc now (f (k + 1) p c v) rest
    ∙ ap (λ (l : List B). now ++ l) (sym (pairs_next f (k + 1) k ps cs vs p c v here claimed found)) ∙ before

-- no row is left
pub rows_end : {B : Type 0} (f : ℕ → PairLine → Claim → Verdict → List B) (n k : ℕ) (ps : List PairLine) (cs : List Claim) (vs : List Verdict)
    (all now : List B) → length ps ≤ k → now ++ each_pair f n (drop k ps) (drop k cs) (drop k vs) ≡ all → now ≡ all
rows_end {B} f n k ps cs vs all now past before =
    let none : each_pair f n (drop k ps) (drop k cs) (drop k vs) ≡ [] =
    ap (λ (l : List PairLine). each_pair f n l (drop k cs) (drop k vs)) (drop_all k ps past) in
    sym (append-nil now) ∙ ap (λ (l : List B). now ++ l) (sym none) ∙ before
