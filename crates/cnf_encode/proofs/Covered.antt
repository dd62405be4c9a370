-- Going through the places that keys are about is as good as going through all places.
use Rattle.std.proofs.Common.{◌≡◌, ℕ, zero, suc, ◌+◌, ◌<◌, ◌≤◌, Bool, true, false, List, [], ◌∷◌, ◌++◌, length, Some, arith, inl, inr, ◌⊎◌, refl, ap}
use Rattle.std.proofs.Common.{sym, ◌∙◌, subst, get_or}
use Rattle.std.specs.Prelude.{slice_get, flat_map}
use Rattle.std.specs.List.{range_with_len, AllPairs}
use Rattle.std.proofs.lemmas.Bool.{cases_eq}
use Rattle.std.proofs.lemmas.Option.{slice_get-get_or}
use Rattle.std.proofs.lemmas.List.Elements.{All-contains}
use Rattle.std.proofs.lemmas.List.Kept.{AllPairs-from_increasing}
use Rattle.net_model.proofs.Members.{In, In-from_Contains, Contains-from_In}
use Rattle.query_model.specs.Keys.{below}
use Rattle.query_model.specs.declared.keys.Key.{Key}
use Rattle.cnf_encode.specs.Coned.{has_point, Covers}

-- the numbers rise, from s or more on
pub Rises : ℕ → List ℕ → Type 0
Rises s [] = Unit
Rises s (x ∷ xs) = (s ≤ x) × Rises (x + 1) xs

pub Rises-from_pairs : (s : ℕ) (xs : List ℕ) → AllPairs (λ x y. x < y) xs → ((k : ℕ) → In k xs → s ≤ k) → Rises s xs
unfolding Rises
Rises-from_pairs s [] pairs low = tt
Rises-from_pairs s (x ∷ xs) pairs low = (
  low x (inl refl),
  Rises-from_pairs (x + 1) xs (λ i j d lt within. pairs (suc i) (suc j) d (omega arith) (omega arith)) (λ k has.
      let at = Contains-from_In xs k has in
      let lt : x < get_or xs at.0 k = pairs 0 (suc at.0) k (omega arith) (omega (arith, at.1)) in
      omega (arith, lt, at.2)),
)

-- none of them is below s
not_before : (s : ℕ) (xs : List ℕ) (k : ℕ) → Rises s xs → In k xs → s ≤ k
unfolding Rises
not_before s [] k up has = absurd has
not_before s (x ∷ xs) k up (inl here) = let low : s ≤ x = up.0 in omega arith
not_before s (x ∷ xs) k up (inr later) = let low : s ≤ x = up.0 in let more = not_before (x + 1) xs k up.1 later in omega arith

-- the numbers from s on, one by one
pub through : {X : Type 0} (f : ℕ → List X) (n s : ℕ) (xs : List ℕ) → Rises s xs → ((k : ℕ) → In k xs → k < s + n)
    → ((k : ℕ) → s ≤ k → k < s + n → In k xs ⊎ (f k ≡ [])) → flat_map f xs ≡ flat_map f (range_with_len s n)
unfolding Rises
through f zero s [] up low has = refl
through f zero s (x ∷ xs) up low has = let a = low x (inl refl) in let b : s ≤ x = up.0 in absurd (omega arith)
through f (suc n) s [] up low has =
    elim (has s (omega arith) (omega arith)) [
      | inl in_none ↦ absurd in_none
      | inr none ↦ sym (ap (λ ys. ys ++ flat_map f (range_with_len (s + 1) n)) none
          ∙ sym (through f n (s + 1) [] tt (λ k in_none. absurd in_none) (λ k a b. has k (omega arith) (omega arith))))
    ]
through f (suc n) s (x ∷ xs) up low has = elim (cases_eq x s) [
  | inl same ↦
      ap (λ k. f k ++ flat_map f xs) same ∙ ap (λ ys. f s ++ ys) (through f n (s + 1) xs (subst (λ m. Rises (m + 1) xs) same up.1)
      (λ k later. let b = low k (inr later) in omega arith) (λ k a b.
      elim (has k (omega arith) (omega arith)) [
        | inl in_all ↦ elim in_all [ inl here ↦ absurd (omega arith) | inr later ↦ inl later ]
        | inr none ↦ inr none
      ]))
  | inr apart ↦
      let least : s ≤ x = up.0 in
      elim (has s (omega arith) (omega arith)) [
        | inl in_all ↦ let beyond = not_before (s + 1) (x ∷ xs) s (omega arith, up.1) in_all in absurd (omega arith)
        | inr none ↦
            through f n (s + 1) (x ∷ xs) (omega arith, up.1) (λ k in_all. let b = low k in_all in omega arith) (λ k a b. has k (omega arith) (omega arith))
            ∙ sym (ap (λ ys. ys ++ flat_map f (range_with_len (s + 1) n)) none)
      ]
]

-- the numbers below n are those from 0 on
range_more : (s n : ℕ) → range_with_len s (suc n) ≡ range_with_len s n ++ (s + n) ∷ []
range_more s zero = let e : s ≡ s + 0 = omega arith in ap (λ m. m ∷ []) e
range_more s (suc n) = let e : s + 1 + n ≡ s + suc n = omega arith in ap (λ ms. s ∷ ms) (range_more (s + 1) n ∙ ap (λ m. range_with_len (s + 1) n ++ m ∷ []) e)

pub below_is : (n : ℕ) → below n ≡ range_with_len 0 n
below_is zero = refl
below_is (suc n) = let e : n ≡ 0 + n = omega arith in ap (λ ms. ms ++ n ∷ []) (below_is n) ∙ ap (λ m. range_with_len 0 n ++ m ∷ []) e ∙ sym (range_more 0 n)

true_or_false : (b : Bool) → (b ≡ true) ⊎ (b ≡ false)
true_or_false true = inl refl
true_or_false false = inr refl

-- where all but such places give nothing, the places give what all do
pub covered : {X : Type 0} (keys : List Key) (c : ℕ) (points places : List ℕ) (f : ℕ → List X) → Covers keys c points places
    → ((k p : ℕ) → slice_get points k ≡ Some p → has_point keys c p ≡ false → f k ≡ []) → flat_map f places ≡ flat_map f (below (length points))
covered {X} keys c points places f covers none =
    through f (length points) 0 places (Rises-from_pairs 0 places (AllPairs-from_increasing places covers.ascending) (λ k has. omega arith))
    (λ k has. let lt = All-contains (λ m. m < length points) places k covers.below (Contains-from_In places k has) in omega arith)
    (λ k a b. at_place k (omega arith))
    ∙ sym (ap (flat_map f) (below_is (length points)))
  where
    at_place : (k : ℕ) → k < length points → In k places ⊎ (f k ≡ [])
    at_place k lt =
        let at : slice_get points k ≡ Some (get_or points k 0) = slice_get-get_or points k 0 lt in
        elim (true_or_false (has_point keys c (get_or points k 0))) [
          | inl needed ↦ inl (In-from_Contains places k (covers.all k (get_or points k 0) at needed))
          | inr free ↦ inr (none k (get_or points k 0) at free)
        ]
