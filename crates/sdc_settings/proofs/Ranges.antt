-- Places that pass a test, one after another.
use Rattle.std.proofs.Common.{arith, ◌≡◌, ◌∙◌, ℕ, zero, suc, ◌+◌, ◌<◌, ◌≤◌, Bool, true, false, List, [], ◌∷◌, ◌++◌, sym, ap, append-nil, append_assoc}
use Rattle.std.proofs.Common.{refl, subst, inl, inr}
use Rattle.std.specs.Prelude.{All}
use Rattle.std.specs.List.{filter, range_with_len}
use Rattle.std.proofs.lemmas.Bool.{cases_Bool}
use Rattle.std.proofs.lemmas.List.FromFn.{map-range_with_len_more}
use Rattle.std.proofs.lemmas.List.Elements.{filter-append, All-append}
use Rattle.std.proofs.lemmas.List.{map-id}

one_below : (n k : ℕ) → k < n → All (λ (place : ℕ). place < n) (k ∷ [])
one_below n k lt zero d low = lt
one_below n k lt (suc i) d low = absurd (omega (arith, low))

-- one number more
pub range_more : (k : ℕ) → range_with_len 0 (k + 1) ≡ range_with_len 0 k ++ k ∷ []
range_more k =
    sym (map-id (range_with_len 0 (k + 1))) ∙ map-range_with_len_more (λ (i : ℕ). i) 0 k k (omega arith) ∙ ap (λ (l : List ℕ). l ++ k ∷ [])
    (map-id (range_with_len 0 k))

-- the next place passes
pub place_taken : (p : ℕ → Bool) (k : ℕ) → p k ≡ true → filter p (range_with_len 0 (k + 1)) ≡ filter p (range_with_len 0 k) ++ k ∷ []
place_taken p k is =
    let one : filter p (k ∷ []) ≡ k ∷ [] = rw is refl in
    ap (filter p) (range_more k) ∙ filter-append p (range_with_len 0 k) (k ∷ []) ∙ ap (λ (l : List ℕ). filter p (range_with_len 0 k) ++ l) one

-- the next place does not
pub place_left : (p : ℕ → Bool) (k : ℕ) → p k ≡ false → filter p (range_with_len 0 (k + 1)) ≡ filter p (range_with_len 0 k)
place_left p k is =
    let none : filter p (k ∷ []) ≡ [] = rw is refl in
    ap (filter p) (range_more k) ∙ filter-append p (range_with_len 0 k) (k ∷ []) ∙ ap (λ (l : List ℕ). filter p (range_with_len 0 k) ++ l) none
    ∙ append-nil (filter p (range_with_len 0 k))

-- a list with the next place at its end
pub added_taken : (p : ℕ → Bool) (old now new : List ℕ) (k : ℕ) → p k ≡ true → new ≡ now ++ k ∷ [] → now ≡ old ++ filter p (range_with_len 0 k)
    → new ≡ old ++ filter p (range_with_len 0 (k + 1))
added_taken p old now new k is pushed before =
    pushed ∙ ap (λ (l : List ℕ). l ++ k ∷ []) before ∙ append_assoc old (filter p (range_with_len 0 k)) (k ∷ [])
    ∙ ap (λ (l : List ℕ). old ++ l) (sym (place_taken p k is))

-- and without it
pub added_left : (p : ℕ → Bool) (old now : List ℕ) (k : ℕ) → p k ≡ false → now ≡ old ++ filter p (range_with_len 0 k)
    → now ≡ old ++ filter p (range_with_len 0 (k + 1))
added_left p old now k is before = before ∙ ap (λ (l : List ℕ). old ++ l) (sym (place_left p k is))

-- the places that pass are below the number of places
pub below_filter : (p : ℕ → Bool) (n k : ℕ) → k ≤ n → All (λ (place : ℕ). place < n) (filter p (range_with_len 0 k))
below_filter p n zero le = λ i d low. absurd (omega (arith, low))
below_filter p n (suc k) le =
    let same : k + 1 ≡ suc k = omega arith in
    let before : All (λ (place : ℕ). place < n) (filter p (range_with_len 0 k)) = below_filter p n k (omega (arith, le)) in
    subst (λ (m : ℕ). All (λ (place : ℕ). place < n) (filter p (range_with_len 0 m))) same (elim (cases_Bool (p k)) [
      | inl is ↦ subst (All (λ (place : ℕ). place < n)) (sym (place_taken p k is))
          (All-append (λ (place : ℕ). place < n) (filter p (range_with_len 0 k)) (k ∷ []) before (one_below n k (omega (arith, le))))
      | inr not ↦ subst (All (λ (place : ℕ). place < n)) (sym (place_left p k not)) before
    ])
