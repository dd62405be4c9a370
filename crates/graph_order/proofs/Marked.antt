-- Lists in which each number stands at most once, and their marks.
use Rattle.std.proofs.Common.{◌≡◌, ◌≢◌, ℕ, zero, suc, ◌+◌, ◌<◌, ◌≤◌, Bool, true, false, cond, List, [], ◌∷◌, ◌++◌, length, set, get_or, Some, refl}
use Rattle.std.proofs.Common.{ap, sym, ◌∙◌, arith, get_or-set_other, get_or-set_same, length-set, inl, inr, eq-eqb}
use Rattle.std.specs.Prelude.{Contains, slice_get, count_by, ◌==◌, ◌⊎◌, not}
use Rattle.std.proofs.lemmas.Bool.{cases_eq, eqb-true}
use Rattle.std.proofs.lemmas.Bool.Decides.{nat_tests}
use Rattle.std.proofs.lemmas.List.Sums.{sum_by-append, sum_by-set}
use Rattle.std.proofs.lemmas.List.Elements.{Contains-append_cases, Contains-append_right}
use Rattle.std.proofs.lemmas.Option.{slice_get_within, get_or_from_slice_get}
use Rattle.graph_order.specs.Visits.{AreMarked}

-- counts of two lists add up
pub count_append : (p : ℕ → Bool) (xs ys : List ℕ) → count_by p (xs ++ ys) ≡ count_by p xs + count_by p ys
count_append p xs ys = sum_by-append (λ m. cond (p m) 1 0) xs ys

-- the first item counts, or not
pub count_cons : (p : ℕ → Bool) (x : ℕ) (xs : List ℕ) → count_by p (x ∷ xs) ≡ cond (p x) 1 0 + count_by p xs
count_cons p x xs = let split = sum_by-append (λ m. cond (p m) 1 0) (x ∷ []) xs in omega (arith, split)

-- an equal number counts 1
pub counted : (n m : ℕ) → m ≡ n → ◌≡◌ {A = ℕ} (cond (m == n) 1 0) 1
counted n m e = ap (λ (b : Bool). cond {A = ℕ} b 1 0) (eq-eqb m n e)

-- another number counts 0
pub not_counted : (n m : ℕ) → m ≢ n → ◌≡◌ {A = ℕ} (cond (m == n) 1 0) 0
not_counted n m h = grind (arith, nat_tests)

-- the count in a list of one
count_one : (n m : ℕ) → count_by (λ k. k == n) (m ∷ []) ≡ cond (m == n) 1 0
count_one n m = omega (arith, count_cons (λ k. k == n) m [])

-- one more number, and its mark
pub marked_more : (order : List ℕ) (marks : List Bool) (k : ℕ) → k < length marks → get_or marks k false ≡ false → AreMarked order marks
    → AreMarked (order ++ k ∷ []) (set marks k true)
marked_more order marks k within free done = λ n lt.
    let short : n < length marks = omega (arith, length-set marks k true) in
    let total = count_append (λ m. m == n) order (k ∷ []) in
    let one = count_one n k in
    let old = done n short in
    elim (cases_eq n k) [
      | inl here ↦
          let zero_before : count_by (λ m. m == n) order ≡ 0 = old ∙ ap (λ (b : Bool). cond {A = ℕ} b 1 0) (ap (λ (j : ℕ). get_or marks j false) here ∙ free) in
          let hit = counted n k (sym here) in
          let now : get_or (set marks k true) n false ≡ true = rw here (get_or-set_same marks k true false within) in
          rw now (omega arith)
      | inr apart ↦
          let miss = not_counted n k (λ e. apart (sym e)) in
          let now : get_or (set marks k true) n false ≡ get_or marks n false = get_or-set_other marks k n true false apart in
          rw now (omega arith)
    ]

-- the first item, or one that is counted later
first_or : (n x : ℕ) (xs : List ℕ) → (1 ≤ count_by (λ m. m == n) xs → Contains xs n) → 1 ≤ count_by (λ m. m == n) (x ∷ xs) → (b : Bool) → (x == n) ≡ b
    → Contains (x ∷ xs) n
first_or n x xs later h true e = (0, omega arith, eqb-true x n e)
first_or n x xs later h false e =
    let rest = count_cons (λ m. m == n) x xs in
    let none = ap (λ (b : Bool). cond {A = ℕ} b 1 0) e in
    Contains-append_right (x ∷ []) xs n (later (omega arith))

-- what is counted stands in the list
pub counted_contains : (n : ℕ) (xs : List ℕ) → 1 ≤ count_by (λ m. m == n) xs → Contains xs n
counted_contains n [] h = absurd (omega arith)
counted_contains n (x ∷ xs) h = first_or n x xs (counted_contains n xs) h (x == n) refl

-- what stands at a place is contained
pub contains_at : {X : Type 0} (xs : List X) (i : ℕ) (x : X) → slice_get xs i ≡ Some x → Contains xs x
contains_at xs i x at = (i, slice_get_within xs i x at, get_or_from_slice_get xs i x x at)

-- what a list of one contains is its item
pub contains_one : {X : Type 0} (x y : X) → Contains (x ∷ []) y → x ≡ y
contains_one x y (zero, within, same) = same
contains_one x y (suc i, within, same) = absurd (omega arith)

-- the first, or one of the rest
pub contains_cases : {X : Type 0} (x : X) (xs : List X) (y : X) → Contains (x ∷ xs) y → (x ≡ y) ⊎ Contains xs y
contains_cases x xs y has =
    elim (Contains-append_cases (x ∷ []) xs y has) [ inl first ↦ inl (contains_one x y first) | inr later ↦ inr later ]

-- a place of a list with one more at its end
pub place_cases : {X : Type 0} (xs : List X) (x : X) (i : ℕ) (y : X) → slice_get (xs ++ x ∷ []) i ≡ Some y
    → ((i < length xs) × (slice_get xs i ≡ Some y)) ⊎ ((i ≡ length xs) × (x ≡ y))
place_cases [] x zero y at = inr (refl, cc)
place_cases [] x (suc i) y at = cc
place_cases (z ∷ zs) x zero y at = inl (omega arith, at)
place_cases (z ∷ zs) x (suc i) y at =
    elim (place_cases zs x i y at) [ inl old ↦ inl (omega (arith, old.0), old.1) | inr new ↦ inr (omega (arith, new.0), new.1) ]

-- one more mark leaves one fewer without
pub fewer : (seen : List Bool) (k : ℕ) → k < length seen → get_or seen k false ≡ false → count_by not (set seen k true) + 1 ≡ count_by not seen
fewer seen k within fresh =
    let swap = sum_by-set (λ (b : Bool). cond {A = ℕ} (not b) 1 0) seen k true false within in
    let was = ap (λ (b : Bool). cond {A = ℕ} (not b) 1 0) fresh in
    omega arith

-- what is contained stands at a place
pub at_contains : {X : Type 0} (xs : List X) (x : X) → Contains xs x → (i : ℕ) × (slice_get xs i ≡ Some x)
at_contains [] x has = absurd (omega (arith, has.1))
at_contains (y ∷ ys) x (zero, within, same) = (0, ap (λ z. Some z) same)
at_contains (y ∷ ys) x (suc i, within, same) = let more = at_contains ys x (i, omega arith, same) in (suc more.0, more.1)
