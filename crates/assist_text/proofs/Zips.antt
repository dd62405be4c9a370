-- Two lists, item by item.
use Rattle.std.proofs.Common.{◌≡◌, ℕ, zero, suc, ◌+◌, ◌<◌, List, [], ◌∷◌, ◌++◌, length, get_or, take, Some, refl, ap, sym, subst, ◌∙◌}
use Rattle.std.proofs.lemmas.List.{take_more}
use Rattle.std.proofs.lemmas.Option.{slice_get_within, get_or_from_slice_get}
use Rattle.std.specs.Prelude.{slice_get, All}
use Rattle.std.specs.List.{AllZip}

-- one more item of each
pub zip_push : {A B : Type 0} (R : A → B → Type 0) (xs : List A) (ys : List B) (x : A) (y : B) → AllZip R xs ys → R x y → AllZip R (xs ++ x ∷ []) (ys ++ y ∷ [])
zip_push R [] [] x y all one = (one, tt)
zip_push R [] (b ∷ ys) x y all one = absurd all
zip_push R (a ∷ xs) [] x y all one = absurd all
zip_push R (a ∷ xs) (b ∷ ys) x y all one = (all.0, zip_push R xs ys x y all.1 one)

pub zip_length : {A B : Type 0} (R : A → B → Type 0) (xs : List A) (ys : List B) → AllZip R xs ys → length xs ≡ length ys
zip_length R [] [] all = refl
zip_length R [] (b ∷ ys) all = absurd all
zip_length R (a ∷ xs) [] all = absurd all
zip_length R (a ∷ xs) (b ∷ ys) all = ap suc (zip_length R xs ys all.1)

-- what stands at a place of the second list goes with what stands there in the first
pub zip_from : {A B : Type 0} (R : A → B → Type 0) (xs : List A) (ys : List B) (k : ℕ) (y : B) → AllZip R xs ys → slice_get ys k ≡ Some y
    → (x : A) × (slice_get xs k ≡ Some x) × R x y
zip_from R [] [] k y all at = absurd (cc)
zip_from R [] (b ∷ ys) k y all at = absurd all
zip_from R (a ∷ xs) [] k y all at = absurd all
zip_from R (a ∷ xs) (b ∷ ys) zero y all at = (a, refl, (let same : b ≡ y = cc in subst (R a) same all.0))
zip_from R (a ∷ xs) (b ∷ ys) (suc k) y all at = zip_from R xs ys k y all.1 at

-- and the other way round
pub zip_to : {A B : Type 0} (R : A → B → Type 0) (xs : List A) (ys : List B) (k : ℕ) (x : A) → AllZip R xs ys → slice_get xs k ≡ Some x
    → (y : B) × (slice_get ys k ≡ Some y) × R x y
zip_to R [] [] k x all at = absurd (cc)
zip_to R [] (b ∷ ys) k x all at = absurd all
zip_to R (a ∷ xs) [] k x all at = absurd all
zip_to {A} R (a ∷ xs) (b ∷ ys) zero x all at = (b, refl, (let same : a ≡ x = cc in subst (λ (v : A). R v b) same all.0))
zip_to R (a ∷ xs) (b ∷ ys) (suc k) x all at = zip_to R xs ys k x all.1 at

-- a front with one item more, which is read at its place
pub take_read : {A : Type 0} (xs : List A) (k : ℕ) (x : A) → k < length xs → x ≡ get_or xs k x → take (k + 1) xs ≡ take k xs ++ x ∷ []
take_read {A} xs k x low at = take_more xs k x low ∙ ap (λ (y : A). take k xs ++ y ∷ []) (sym at)

-- one more of each, the first read at its place
pub zip_more : {A B : Type 0} (R : A → B → Type 0) (xs : List A) (ys : List B) (k : ℕ) (x : A) (y : B) → k < length xs → x ≡ get_or xs k x
    → AllZip R (take k xs) ys → R x y → AllZip R (take (k + 1) xs) (ys ++ y ∷ [])
zip_more {A} {B} R xs ys k x y low at all one =
    subst (λ (zs : List A). AllZip R zs (ys ++ y ∷ [])) (sym (take_read xs k x low at)) (zip_push R (take k xs) ys x y all one)

-- what holds of all holds at a place
pub all_at : {A : Type 0} (P : A → Type 0) (xs : List A) (k : ℕ) (x : A) → All P xs → slice_get xs k ≡ Some x → P x
all_at P xs k x all at = subst P (get_or_from_slice_get xs k x x at) (all k x (slice_get_within xs k x at))
