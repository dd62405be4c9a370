-- The first list that is not empty.
use Rattle.std.proofs.Common.{arith, ◌≡◌, ◌∙◌, ℕ, suc, ◌+◌, List, [], ◌∷◌, drop, get_or, map, refl, ap, drop-cons}
use Rattle.std.specs.Prelude.{Some, slice_get}
use Rattle.std.proofs.lemmas.Option.{slice_get_within, get_or_from_slice_get}
use Rattle.sdc_objects.specs.Things.{first_some}

drop_next : {A : Type 0} (xs : List A) (i : ℕ) (x : A) → slice_get xs i ≡ Some x → drop i xs ≡ x ∷ drop (i + 1) xs
drop_next xs i x here =
    let one : suc i ≡ i + 1 = omega arith in
    drop-cons xs i x (slice_get_within xs i x here) ∙ ap (λ (n : ℕ). get_or xs i x ∷ drop n xs) one
    ∙ ap (λ y. y ∷ drop (i + 1) xs) (get_or_from_slice_get xs i x x here)

take_first : {B : Type 0} (ys : List B) (rest : List (List B)) → (ys ≡ [] → ⊥) → first_some (ys ∷ rest) ≡ ys
take_first [] rest some = absurd (some refl)
take_first (y ∷ ys) rest some = refl

-- the first list that is not empty
pub first_here : {A B : Type 0} (f : A → List B) (xs : List A) (i : ℕ) (x : A) → slice_get xs i ≡ Some x → (f x ≡ [] → ⊥) → first_some (map f (drop i xs)) ≡ f x
first_here f xs i x here some =
    ap (λ l. first_some (map f l)) (drop_next xs i x here) ∙ take_first (f x) (map f (drop (i + 1) xs)) some

pub first_later : {A B : Type 0} (f : A → List B) (xs : List A) (i : ℕ) (x : A) → slice_get xs i ≡ Some x → f x ≡ [] → first_some (map f (drop i xs)) ≡
    first_some (map f (drop (i + 1) xs))
first_later f xs i x here none =
    ap (λ l. first_some (map f l)) (drop_next xs i x here) ∙ ap (λ l. first_some (l ∷ map f (drop (i + 1) xs))) none
