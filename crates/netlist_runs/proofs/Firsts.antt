-- The first items of a sequence.
use Rattle.std.proofs.Common.{◌≡◌, ℕ, zero, suc, List, [], ◌∷◌, length, Some, refl, subst, ap, ◌∙◌, arith}
use Rattle.std.specs.Prelude.{All, slice_get}
use Rattle.net_model.proofs.Driving.{all_from_places}

-- so many of them
abbrev pub firsts : {X : Type 0} → (ℕ → X) → ℕ → List X
firsts f zero = []
firsts f (suc n) = f 0 ∷ firsts (λ t. f (suc t)) n

pub length-firsts : {X : Type 0} (f : ℕ → X) (n : ℕ) → length (firsts f n) ≡ n
length-firsts f zero = refl
length-firsts f (suc n) = omega (arith, length-firsts (λ t. f (suc t)) n)

-- each stands at its place
pub first_at : {X : Type 0} (f : ℕ → X) (n t : ℕ) (x : X) → slice_get (firsts f n) t ≡ Some x → f t ≡ x
first_at f zero t x at = cc
first_at f (suc n) zero x at = cc
first_at f (suc n) (suc t) x at = first_at (λ u. f (suc u)) n t x at

-- what holds of each item holds of the first ones
pub all_firsts : {X : Type 0} (P : X → Type 0) (f : ℕ → X) (n : ℕ) → ((t : ℕ) → P (f t)) → All P (firsts f n)
all_firsts P f n each = all_from_places P (firsts f n) (λ t lt x at. subst P (first_at f n t x at) (each t))

-- a list that has each item at its place, and no others, is that of the first items
pub firsts_once : {X : Type 0} (f : ℕ → X) (n : ℕ) (xs : List X) → length xs ≡ n → ((t : ℕ) (x : X) → slice_get xs t ≡ Some x → x ≡ f t) → xs ≡ firsts f n
firsts_once f zero [] long same = refl
firsts_once f zero (x ∷ xs) long same = absurd (omega (arith, long))
firsts_once f (suc n) [] long same = absurd (omega (arith, long))
firsts_once f (suc n) (x ∷ xs) long same =
    let head = same 0 x refl in
    let rest = firsts_once (λ t. f (suc t)) n xs (omega (arith, long)) (λ t y at. same (suc t) y at) in
    ap (λ z. z ∷ xs) head ∙ ap (λ zs. f 0 ∷ zs) rest
