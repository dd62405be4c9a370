-- Places that have a right order have none on a cycle.
use Rattle.std.proofs.Common.{◌≡◌, ℕ, zero, suc, ◌<◌, ◌≤◌, List, [], ◌∷◌, take, length, Some, refl, ap, arith, inl, inr, subst}
use Rattle.std.specs.Prelude.{Contains, slice_get, count_by, ◌==◌}
use Rattle.std.proofs.lemmas.Bool.{cases_lt}
use Rattle.std.proofs.lemmas.List.{get_or_past}
use Rattle.graph_order.specs.Needs.{needs_of, LeadsTo, Stay, Go_on, IsOnCycle}
use Rattle.graph_order.specs.Orders.{IsRightOrder}
use Rattle.graph_order.proofs.Marked.{count_cons, counted, counted_contains, at_contains}

-- what stands at a place is counted
pub hit_at : (k : ℕ) (xs : List ℕ) (p : ℕ) → slice_get xs p ≡ Some k → 1 ≤ count_by (λ m. m == k) xs
hit_at k [] p at = cc
hit_at k (x ∷ xs) zero at = let same : x ≡ k = cc in omega (arith, count_cons (λ m. m == k) x xs, counted k x same)
hit_at k (x ∷ xs) (suc p) at = omega (arith, count_cons (λ m. m == k) x xs, hit_at k xs p at)

-- what stands once has one place
pub one_place : (k : ℕ) (xs : List ℕ) (p q : ℕ) → count_by (λ m. m == k) xs ≤ 1 → slice_get xs p ≡ Some k → slice_get xs q ≡ Some k → p ≡ q
one_place k [] p q once a b = cc
one_place k (x ∷ xs) zero zero once a b = refl
one_place k (x ∷ xs) zero (suc q) once a b = let same : x ≡ k = cc in absurd (omega (arith, count_cons (λ m. m == k) x xs, counted k x same, hit_at k xs q b))
one_place k (x ∷ xs) (suc p) zero once a b = let same : x ≡ k = cc in absurd (omega (arith, count_cons (λ m. m == k) x xs, counted k x same, hit_at k xs p a))
one_place k (x ∷ xs) (suc p) (suc q) once a b = ap suc (one_place k xs p q (omega (arith, count_cons (λ m. m == k) x xs)) a b)

-- what stands among the first items stands at one of their places
taken_place : (xs : List ℕ) (r k : ℕ) → Contains (take r xs) k → (p : ℕ) × (p < r) × (slice_get xs p ≡ Some k)
taken_place xs zero k has = absurd (omega (arith, has.1))
taken_place [] (suc r) k has = absurd (omega (arith, has.1))
taken_place (x ∷ xs) (suc r) k (zero, within, same) = (0, omega arith, ap (λ (n : ℕ). Some n) same)
taken_place (x ∷ xs) (suc r) k (suc i, within, same) =
    let (p, less, at) = taken_place xs r k (i, omega arith, same) in (suc p, omega arith, at)

-- what needs something is a place
pub needs_within : (needs : List (List ℕ)) (by need : ℕ) → Contains (needs_of needs by) need → by < length needs
needs_within needs by need asked = elim (cases_lt by (length needs)) [
  | inl lt ↦ lt
  | inr past ↦ let none : needs_of needs by ≡ [] = get_or_past needs by [] past in let gone = subst (λ (xs : List ℕ). Contains xs need) none asked in
      absurd (omega (arith, gone.1))
]

-- each place stands in the order
placed : (needs : List (List ℕ)) (order : List ℕ) → IsRightOrder needs order → (k : ℕ) → k < length needs → (r : ℕ) × (slice_get order r ≡ Some k)
placed needs order right k lt = at_contains order k (counted_contains k order (omega (arith, right.each_once k lt)))

-- a place stands after each that it needs
stands_after : (needs : List (List ℕ)) (order : List ℕ) → IsRightOrder needs order → (by need p r : ℕ) → Contains (needs_of needs by) need
    → slice_get order p ≡ Some need → slice_get order r ≡ Some by → p < r
stands_after needs order right by need p r asked at_need at_by =
    let within = right.in_range p need at_need in
    let (q, less, at) = taken_place order r need (right.earlier r by need at_by asked within) in
    omega (arith, one_place need order p q (omega (arith, right.each_once need within)) at_need at)

-- what a place leads to stands no earlier
leads_later : (needs : List (List ℕ)) (order : List ℕ) → IsRightOrder needs order → (a b : ℕ) → LeadsTo needs a b → (p : ℕ)
    → slice_get order p ≡ Some a → (q : ℕ) × (p ≤ q) × (slice_get order q ≡ Some b)
leads_later needs order right a b (Stay place) p at = (p, omega arith, at)
leads_later needs order right a b (Go_on from by to asked back) p at =
    let (r, at_by) = placed needs order right by (needs_within needs by from asked) in
    let before = stands_after needs order right by from p r asked at at_by in
    let (q, later, at_to) = leads_later needs order right by to back r at_by in
    (q, omega arith, at_to)

-- what a place leads to is a place
pub leads_within : (needs : List (List ℕ)) (a b : ℕ) → LeadsTo needs a b → a < length needs → b < length needs
leads_within needs a b (Stay place) lt = lt
leads_within needs a b (Go_on from by to asked back) lt = leads_within needs by to back (needs_within needs by from asked)

-- a place on a cycle is a place
pub cycle_within : (needs : List (List ℕ)) (place : ℕ) → IsOnCycle needs place → place < length needs
cycle_within needs place on = leads_within needs on.by place on.back (needs_within needs on.by place on.needed)

-- with a right order no place is on a cycle
pub no_cycle : (needs : List (List ℕ)) (order : List ℕ) (place : ℕ) → IsRightOrder needs order → IsOnCycle needs place → ⊥
no_cycle needs order place right on =
    let within = cycle_within needs place on in
    let (p, at) = placed needs order right place within in
    let (r, at_by) = placed needs order right on.by (needs_within needs on.by place on.needed) in
    let before = stands_after needs order right on.by place p r on.needed at at_by in
    let (q, later, at_back) = leads_later needs order right on.by place on.back r at_by in
    absurd (omega (arith, one_place place order p q (omega (arith, right.each_once place within)) at at_back))
