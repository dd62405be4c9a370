-- Two lists that are compared item by item.
use Rattle.std.proofs.Common.{◌≡◌, ◌≢◌, ◌∙◌, ℕ, suc, ◌+◌, ◌≤◌, Bool, true, false, ◌&&◌, List, [], ◌∷◌, length, drop, refl, ap}
use Rattle.std.specs.Prelude.{Some, slice_get}
use Rattle.std.proofs.lemmas.List.{drop_all}
use Rattle.script_notices.specs.Companions.{are_same}
use Rattle.script_notices.proofs.Rests.{drop_here, second_fails}

-- lists of two lengths are two
pub same_long : {A : Type 0} (is : A → A → Bool) (xs ys : List A) → length xs ≢ length ys → are_same is xs ys ≡ false
unfolding are_same
same_long is [] [] differ = absurd (differ refl)
same_long is [] (y ∷ ys) differ = refl
same_long is (x ∷ xs) [] differ = refl
same_long is (x ∷ xs) (y ∷ ys) differ = second_fails (is x y) (are_same is xs ys) (same_long is xs ys (λ e. differ (ap suc e)))

-- what is left of two lists, of which the next items stand at one place
pub same_next : {A : Type 0} (is : A → A → Bool) (xs ys : List A) (k : ℕ) (x y : A) → slice_get xs k ≡ Some x → slice_get ys k ≡ Some y
    → are_same is (drop k xs) (drop k ys) ≡ (is x y && are_same is (drop (k + 1) xs) (drop (k + 1) ys))
unfolding are_same
same_next {A} is xs ys k x y here there =
    ap (λ (left : List A). are_same is left (drop k ys)) (drop_here xs k x here)
    ∙ ap (λ (left : List A). are_same is (x ∷ drop (k + 1) xs) left) (drop_here ys k y there)

-- nothing is left of two lists of one length
pub same_done : {A : Type 0} (is : A → A → Bool) (xs ys : List A) (k : ℕ) → length xs ≤ k → length ys ≤ k
    → are_same is (drop k xs) (drop k ys) ≡ true
unfolding are_same
same_done {A} is xs ys k first second =
    ap (λ (left : List A). are_same is left (drop k ys)) (drop_all k xs first) ∙ ap (λ (left : List A). are_same is [] left) (drop_all k ys second)
