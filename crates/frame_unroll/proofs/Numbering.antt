-- Numbered lists that grow by an item.
use Rattle.std.proofs.Common.{◌≡◌, ℕ, zero, suc, ◌+◌, List, [], ◌∷◌, ◌++◌, length, take, Some, refl, ap, ◌∙◌, arith}
use Rattle.std.specs.Prelude.{slice_get}
use Rattle.query_model.specs.Defined.{numbered}

pub numbered-push : {X A : Type 0} (f : ℕ → X → A) (i : ℕ) (xs : List X) (x : X) → numbered f i (xs ++ x ∷ []) ≡ numbered f i xs ++ f (i + length xs) x ∷ []
numbered-push f i [] x = let e : i ≡ i + 0 = omega arith in ap (λ (n : ℕ). f n x ∷ []) e
numbered-push f i (y ∷ ys) x =
    let e : i + 1 + length ys ≡ i + length (y ∷ ys) = omega arith in
    ap (λ zs. f i y ∷ zs) (numbered-push f (i + 1) ys x ∙ ap (λ (n : ℕ). numbered f (i + 1) ys ++ f n x ∷ []) e)

pub take_at : {X : Type 0} (xs : List X) (i : ℕ) (x : X) → slice_get xs i ≡ Some x → (take (i + 1) xs ≡ take i xs ++ x ∷ []) × (length (take i xs) ≡ i)
take_at [] i x at = absurd cc
take_at (y ∷ ys) zero x at = ((let e : y ≡ x = cc in ap (λ z. z ∷ []) e), refl)
take_at (y ∷ ys) (suc i) x at =
    let rest = take_at ys i x at in
    let e : suc i + 1 ≡ suc (i + 1) = omega arith in
    let n : length (take (suc i) (y ∷ ys)) ≡ suc (length (take i ys)) = omega arith in
    (ap (λ (k : ℕ). take k (y ∷ ys)) e ∙ ap (λ zs. y ∷ zs) rest.0, n ∙ ap suc rest.1)

-- one more item
pub numbered-take : {X A : Type 0} (f : ℕ → X → A) (xs : List X) (i : ℕ) (x : X) → slice_get xs i ≡ Some x
    → numbered f 0 (take (i + 1) xs) ≡ numbered f 0 (take i xs) ++ f i x ∷ []
numbered-take f xs i x at =
    let more = take_at xs i x at in
    let place : 0 + length (take i xs) ≡ i = omega (arith, more.1) in
    ap (numbered f 0) more.0 ∙ numbered-push f 0 (take i xs) x ∙ ap (λ (n : ℕ). numbered f 0 (take i xs) ++ f n x ∷ []) place

-- the item at a place
numbered_from : {X A : Type 0} (f : ℕ → X → A) (n : ℕ) (xs : List X) (i : ℕ) (x : X) → slice_get xs i ≡ Some x → slice_get (numbered f n xs) i ≡ Some (f (n + i) x)
numbered_from f n [] i x at = absurd cc
numbered_from f n (y ∷ ys) zero x at =
    let e : n ≡ n + 0 = omega arith in
    let same : y ≡ x = cc in
    ap (λ (m : ℕ). Some (f m y)) e ∙ ap (λ z. Some (f (n + 0) z)) same
numbered_from f n (y ∷ ys) (suc i) x at =
    let e : n + 1 + i ≡ n + suc i = omega arith in
    numbered_from f (n + 1) ys i x at ∙ ap (λ (m : ℕ). Some (f m x)) e

pub numbered_at : {X A : Type 0} (f : ℕ → X → A) (xs : List X) (i : ℕ) (x : X) → slice_get xs i ≡ Some x → slice_get (numbered f 0 xs) i ≡ Some (f i x)
numbered_at f xs i x at = let e : 0 + i ≡ i = omega arith in numbered_from f 0 xs i x at ∙ ap (λ (m : ℕ). Some (f m x)) e
