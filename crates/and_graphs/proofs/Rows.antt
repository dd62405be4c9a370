-- Lines of text, one after another.
use Rattle.std.proofs.Common.{◌≡◌, ℕ, ◌+◌, List, [], ◌∷◌, ◌++◌, length, take, Some, ap, sym, ◌∙◌, arith, append_assoc, append-nil, length-take}
use Rattle.std.proofs.lemmas.List.{take_more}
use Rattle.std.proofs.lemmas.Option.{slice_get_within, get_or_from_slice_get}
use Rattle.std.specs.Prelude.{slice_get}
use Rattle.and_graphs.specs.Texts.{rows_from}

-- one more line
rows_more : {X : Type 0} (line : ℕ → X → List ℕ) (v : ℕ) (xs : List X) (x : X)
    → rows_from line v (xs ++ x ∷ []) ≡ rows_from line v xs ++ line (v + length xs) x
unfolding rows_from
rows_more line v [] x = append-nil (line v x) ∙ ap (λ (n : ℕ). line n x) (omega arith)
rows_more line v (y ∷ xs) x =
    let e : v + 1 + length xs ≡ v + length (y ∷ xs) = omega arith in
    ap (λ (text : List ℕ). line v y ++ text) (rows_more line (v + 1) xs x ∙ ap (λ (n : ℕ). rows_from line (v + 1) xs ++ line n x) e)
    ∙ sym (append_assoc (line v y) (rows_from line (v + 1) xs) (line (v + length (y ∷ xs)) x))

-- the lines of the first k items, and that of the next
pub rows_next : {X : Type 0} (line : ℕ → X → List ℕ) (v k : ℕ) (xs : List X) (x : X) (start text next : List ℕ) → slice_get xs k ≡ Some x
    → text ≡ start ++ rows_from line v (take k xs) → next ≡ text ++ line (v + k) x → next ≡ start ++ rows_from line v (take (k + 1) xs)
rows_next {X} line v k xs x start text next at before now =
    let low = slice_get_within xs k x at in
    let taken : take (k + 1) xs ≡ take k xs ++ x ∷ [] = take_more xs k x low ∙ ap (λ (y : X). take k xs ++ y ∷ []) (get_or_from_slice_get xs k x x at) in
    let count : length (take k xs) ≡ k = omega (arith, length-take k xs) in
    let more : rows_from line v (take k xs ++ x ∷ []) ≡ rows_from line v (take k xs) ++ line (v + k) x =
    rows_more line v (take k xs) x ∙ ap (λ (n : ℕ). rows_from line v (take k xs) ++ line (v + n) x) count in
    now ∙ (ap (λ (t : List ℕ). t ++ line (v + k) x) before
    ∙ (append_assoc start (rows_from line v (take k xs)) (line (v + k) x)
    ∙ ap (λ (t : List ℕ). start ++ t) (sym (ap (rows_from line v) taken ∙ more))))
