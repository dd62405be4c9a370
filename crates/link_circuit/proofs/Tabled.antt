-- Tables of full names, one name on.
use Rattle.std.proofs.Common.{◌≡◌, ℕ, zero, suc, ◌<◌, ◌≤◌, Bool, true, false, not, List, [], ◌∷◌, length, Some, refl, ap, sym, ◌∙◌, arith}
use Rattle.std.specs.Prelude.{slice_get}
use Rattle.std.specs.Str.{bytes_eq}
use Rattle.std.proofs.lemmas.Bool.{and_parts}
use Rattle.std.proofs.lemmas.Slice.Eq.{bytes_eq-Decides}
use Rattle.texts.specs.Names.{is_among, place_of, are_distinct}

-- the first name has the place 0
place_here : (n x : List ℕ) (xs : List (List ℕ)) → bytes_eq n x ≡ true → place_of n (x ∷ xs) ≡ 0
place_here n x xs e = rw e refl

-- any other is one further than among the rest
place_later : (n x : List ℕ) (xs : List (List ℕ)) → bytes_eq n x ≡ false → place_of n (x ∷ xs) ≡ suc (place_of n xs)
place_later n x xs e = rw e (omega arith)

-- a name that is the first, or stands among the rest
found_or : (n x : List ℕ) (xs : List (List ℕ)) (b : Bool) → bytes_eq n x ≡ b → (place_of n xs < length xs → slice_get xs (place_of n xs) ≡ Some n)
    → place_of n (x ∷ xs) < length (x ∷ xs) → slice_get (x ∷ xs) (place_of n (x ∷ xs)) ≡ Some n
found_or n x xs true e further lt =
    let (f, g) = bytes_eq-Decides n x in ap (λ (k : ℕ). slice_get (x ∷ xs) k) (place_here n x xs e) ∙ ap (λ (y : List ℕ). Some y) (sym (f e))
found_or n x xs false e further lt =
    let later = place_later n x xs e in ap (λ (k : ℕ). slice_get (x ∷ xs) k) later ∙ further (omega (arith, later))

-- a name with a place stands there
pub found_at : (n : List ℕ) (xs : List (List ℕ)) → place_of n xs < length xs → slice_get xs (place_of n xs) ≡ Some n
found_at n [] lt = absurd (omega arith)
found_at n (x ∷ xs) lt = found_or n x xs (bytes_eq n x) refl (found_at n xs) lt

-- a name without a place is not the first, and not among the rest
absent_or : (n x : List ℕ) (xs : List (List ℕ)) (b : Bool) → bytes_eq n x ≡ b → (length xs ≤ place_of n xs → is_among n xs ≡ false)
    → length (x ∷ xs) ≤ place_of n (x ∷ xs) → is_among n (x ∷ xs) ≡ false
absent_or n x xs true e further past = absurd (omega (arith, place_here n x xs e))
absent_or n x xs false e further past = rw e (further (omega (arith, place_later n x xs e)))

-- and one without is not there
pub absent_at : (n : List ℕ) (xs : List (List ℕ)) → length xs ≤ place_of n xs → is_among n xs ≡ false
absent_at n [] past = refl
absent_at n (x ∷ xs) past = absent_or n x xs (bytes_eq n x) refl (absent_at n xs) past

-- a name is among those that begin with it, or among the rest
among_here : (n x : List ℕ) (xs : List (List ℕ)) (b : Bool) → bytes_eq n x ≡ b → (b ≡ false → is_among n xs ≡ true) → is_among n (x ∷ xs) ≡ true
among_here n x xs true e further = rw e refl
among_here n x xs false e further = rw e (further refl)

-- names that a test tells apart differ
not_bytes : (n x : List ℕ) → bytes_eq n x ≡ false → n ≡ x → ⊥
not_bytes n x e same = let (f, g) = bytes_eq-Decides n x in let hit = g same in cc

-- a name at a place is among them
is_among_at : (n : List ℕ) (xs : List (List ℕ)) (k : ℕ) → slice_get xs k ≡ Some n → is_among n xs ≡ true
is_among_at n [] k at = cc
is_among_at n (x ∷ xs) zero at = among_here n x xs (bytes_eq n x) refl (λ e. absurd (not_bytes n x e (cc)))
is_among_at n (x ∷ xs) (suc k) at = among_here n x xs (bytes_eq n x) refl (λ e. is_among_at n xs k at)

-- no bit and its complement are both
not_among : (b : Bool) → not b ≡ true → b ≡ true → ⊥
not_among true e hit = cc
not_among false e hit = cc

-- names that differ have one place each
pub one_place : (n : List ℕ) (xs : List (List ℕ)) (i j : ℕ) → are_distinct xs ≡ true → slice_get xs i ≡ Some n → slice_get xs j ≡ Some n → i ≡ j
unfolding are_distinct
one_place n [] i j e a b = cc
one_place n (x ∷ xs) zero zero e a b = refl
one_place n (x ∷ xs) zero (suc j) e a b =
    let (first, rest) = and_parts (not (is_among x xs)) (are_distinct xs) e in
    let same : x ≡ n = cc in absurd (not_among (is_among x xs) first (is_among_at x xs j (b ∙ ap (λ (y : List ℕ). Some y) (sym same))))
one_place n (x ∷ xs) (suc i) zero e a b =
    let (first, rest) = and_parts (not (is_among x xs)) (are_distinct xs) e in
    let same : x ≡ n = cc in absurd (not_among (is_among x xs) first (is_among_at x xs i (a ∙ ap (λ (y : List ℕ). Some y) (sym same))))
one_place n (x ∷ xs) (suc i) (suc j) e a b =
    let (first, rest) = and_parts (not (is_among x xs)) (are_distinct xs) e in ap suc (one_place n xs i j rest a b)

-- a place that a table gives is that of the name
pub found_place : (n : List ℕ) (names : List (List ℕ)) (p : ℕ) → p ≡ place_of n names → p < length names → slice_get names p ≡ Some n
found_place n names p is lt = ap (λ (k : ℕ). slice_get names k) is ∙ found_at n names (omega (arith, is))
