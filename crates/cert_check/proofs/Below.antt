-- What holds of the items of a list below a place.
use Rattle.std.proofs.Common.{◌≡◌, ℕ, ◌+◌, ◌<◌, ◌≤◌, Some, List, length, sym, ap, subst, ◌∙◌, inl, inr, arith}
use Rattle.std.specs.Prelude.{slice_get}
use Rattle.std.proofs.lemmas.Bool.{cases_lt}
use Rattle.std.proofs.lemmas.Option.{slice_get_within}

-- it holds of each item below the place
abbrev pub EachBelow : {X : Type 0} → (ℕ → X → Type 0) → List X → ℕ → Type 0
EachBelow {X} P xs place = (k : ℕ) (x : X) → k < place → slice_get xs k ≡ Some x → P k x

some_same : {X : Type 0} (a b : X) → Some a ≡ Some b → a ≡ b
some_same a b e = cc

-- what holds also of the item at the place holds of those below the next
pub each_more : {X : Type 0} (P : ℕ → X → Type 0) (xs : List X) (place : ℕ) (x : X) → EachBelow P xs place → slice_get xs place ≡ Some x → P place x
    → EachBelow P xs (place + 1)
each_more {X} P xs place x below at here k y lt there =
    elim (cases_lt k place) [
      | inl less ↦ below k y less there
      | inr high ↦
          let e : place ≡ k = omega (arith, lt, high) in
          subst (P k) (some_same x y (sym at ∙ ap (slice_get xs) e ∙ there)) (subst (λ (j : ℕ). P j x) e here)
    ]

-- what holds of the items below the length holds of all
pub each_of : {X : Type 0} (P : ℕ → X → Type 0) (xs : List X) (place : ℕ) → EachBelow P xs place → length xs ≤ place → (k : ℕ) (x : X)
    → slice_get xs k ≡ Some x → P k x
each_of P xs place below long k x at = let lt = slice_get_within xs k x at in below k x (omega (arith, lt, long)) at
