-- Lists that are compared item by item, from the first one on.
use Rattle.std.proofs.Common.{◌≡◌, ◌∙◌, ℕ, ◌+◌, ◌<◌, List, [], ◌∷◌, ◌++◌, length, take, drop, get_or, ap, sym}
use Rattle.std.specs.Prelude.{Some, slice_get}
use Rattle.std.specs.List.{flat_map}
use Rattle.std.proofs.lemmas.List.{append_cancel_left, take-append-drop, drop_more}
use Rattle.std.proofs.lemmas.Grind.{flat_map-append}
use Rattle.list_laws.proofs.Joining.{take_next}
use Rattle.mended_text.specs.Claims.{BeginsOtherwise}

-- one more equal item
pub same_next : {A : Type 0} (xs ys : List A) (k : ℕ) (x y : A) → slice_get xs k ≡ Some x → slice_get ys k ≡ Some y → x ≡ y → take k xs ≡ take k ys
    → take (k + 1) xs ≡ take (k + 1) ys
same_next {A} xs ys k x y first second same before =
    take_next xs k x first ∙ ap (λ (l : List A). l ++ x ∷ []) before ∙ ap (λ (z : A). take k ys ++ z ∷ []) same ∙ sym (take_next ys k y second)

-- what is made of an item stands after what is made of those before it
flat_parts : {A B : Type 0} (f : A → List B) (xs : List A) (k : ℕ) (x : A) → k < length xs → flat_map f xs ≡
    flat_map f (take k xs) ++ (f (get_or xs k x) ++ flat_map f (drop (k + 1) xs))
flat_parts {A} {B} f xs k x low =
    ap (flat_map f) (sym (take-append-drop k xs)) ∙ flat_map-append f (take k xs) (drop k xs)
    ∙ ap (λ (l : List A). flat_map f (take k xs) ++ flat_map f l) (drop_more xs k x low)

-- a list that goes on otherwise after what is made of the first items is not what is made of all
pub not_made : {A B : Type 0} (f : A → List B) (xs : List A) (k : ℕ) (x : A) (whole rest : List B) → k < length xs
    → whole ≡ flat_map f (take k xs) ++ rest → BeginsOtherwise (f (get_or xs k x)) rest → whole ≡ flat_map f xs → ⊥
not_made f xs k x whole rest low before other all =
    other (flat_map f (drop (k + 1) xs))
    (append_cancel_left (flat_map f (take k xs)) rest (f (get_or xs k x) ++ flat_map f (drop (k + 1) xs)) (sym before ∙ all ∙ flat_parts f xs k x low))
