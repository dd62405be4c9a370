-- Ranks of places by a right order of them.
use Rattle.std.proofs.Common.{◌≡◌, ℕ, zero, suc, ◌<◌, ◌≤◌, ◌==◌, nat_eq, eqb, Bool, true, false, List, [], ◌∷◌, length, take, refl}
use Rattle.std.proofs.Common.{ap, sym, ◌∙◌, arith, inl, inr}
use Rattle.std.specs.Prelude.{Some, Contains, slice_get, count_by}
use Rattle.std.specs.List.{position_or_len, list_any}
use Rattle.std.proofs.lemmas.Bool.{cases_lt, eqb-true}
use Rattle.std.proofs.lemmas.Bool.Decides.{nat_tests}
use Rattle.std.proofs.lemmas.Map.Keys.{IsDistinct-from_apart}
use Rattle.std.proofs.lemmas.Map.Steps.{length-le_from_distinct_below}
use Rattle.std.proofs.lemmas.Option.{slice_get_within, slice_get-get_or}
use Rattle.graph_order.specs.Needs.{needs_of}
use Rattle.graph_order.specs.Orders.{IsRightOrder}
use Rattle.graph_order.proofs.Marked.{at_contains, counted_contains}
use Rattle.graph_order.proofs.Acyclic.{one_place, needs_within}

-- the rank of a place: where it stands in the order
abbrev pub rank_in : List ℕ → ℕ → ℕ
rank_in order place = position_or_len (nat_eq place) order

found_or : (n x : ℕ) (xs : List ℕ) (b : Bool) → nat_eq n x ≡ b → (b ≡ false → slice_get xs (rank_in xs n) ≡ Some n)
    → slice_get (x ∷ xs) (rank_in (x ∷ xs) n) ≡ Some n
found_or n x xs true e further =
    let here : rank_in (x ∷ xs) n ≡ 0 = rw e refl in ap (λ k. slice_get (x ∷ xs) k) here ∙ ap (λ y. Some y) (sym (eqb-true n x e))
found_or n x xs false e further =
    let later : rank_in (x ∷ xs) n ≡ suc (rank_in xs n) = rw e (omega arith) in ap (λ k. slice_get (x ∷ xs) k) later ∙ further refl

not_same : (n x : ℕ) → nat_eq n x ≡ false → x ≡ n → ⊥
not_same n x e same = grind (arith, nat_tests)

-- a place that stands in the order stands at its rank
found : (order : List ℕ) (place k : ℕ) → slice_get order k ≡ Some place → slice_get order (rank_in order place) ≡ Some place
found [] place k at = cc
found (x ∷ xs) place zero at = found_or place x xs (nat_eq place x) refl (λ e. absurd (not_same place x e (cc)))
found (x ∷ xs) place (suc k) at = found_or place x xs (nat_eq place x) refl (λ e. found xs place k at)

ranked : (needs : List (List ℕ)) (order : List ℕ) → IsRightOrder needs order → (place : ℕ) → place < length needs
    → slice_get order (rank_in order place) ≡ Some place
ranked needs order right place lt =
    let (k, at) = at_contains order place (counted_contains place order (omega (arith, right.each_once place lt))) in found order place k at

-- what stands among the first items stands at one of their places
taken_place : (xs : List ℕ) (r k : ℕ) → Contains (take r xs) k → (p : ℕ) × (p < r) × (slice_get xs p ≡ Some k)
taken_place xs zero k has = absurd (omega (arith, has.1))
taken_place [] (suc r) k has = absurd (omega (arith, has.1))
taken_place (x ∷ xs) (suc r) k (zero, within, same) = (0, omega arith, ap (λ (n : ℕ). Some n) same)
taken_place (x ∷ xs) (suc r) k (suc i, within, same) =
    let (p, less, at) = taken_place xs r k (i, omega arith, same) in (suc p, omega arith, at)

-- a place that is needed has a lower rank
pub rank_falls : (needs : List (List ℕ)) (order : List ℕ) → IsRightOrder needs order → (place need : ℕ) → Contains (needs_of needs place) need
    → need < length needs → rank_in order need < rank_in order place
rank_falls needs order right place need asked within =
    let at_need = ranked needs order right need within in
    let at_place = ranked needs order right place (needs_within needs place need asked) in
    let (p, less, at) = taken_place order (rank_in order place) need (right.earlier (rank_in order place) place need at_place asked within) in
    omega (arith, one_place need order (rank_in order need) p (omega (arith, right.each_once need within)) at_need at)

-- a number stands at most once in the order
once_or : (needs : List (List ℕ)) (order : List ℕ) → IsRightOrder needs order → (n : ℕ) → count_by (λ m. m == n) order ≤ 1
once_or needs order right n = elim (cases_lt (count_by (λ m. m == n) order) 1) [
  | inl none ↦ omega arith
  | inr some ↦
      let (k, at) = at_contains order n (counted_contains n order some) in
      omega (arith, right.each_once n (right.in_range k n at))
]

tells : (a b : ℕ) → (a ≡ b → ⊥) → eqb a b ≡ false
tells a b apart = grind (arith, nat_tests)

some_or : (q x : ℕ) (xs : List ℕ) (b : Bool) → eqb q x ≡ b → (list_any (eqb q) xs ≡ true → (k : ℕ) × (slice_get xs k ≡ Some q))
    → list_any (eqb q) (x ∷ xs) ≡ true → (k : ℕ) × (slice_get (x ∷ xs) k ≡ Some q)
some_or q x xs true e further hit = (0, ap (λ y. Some y) (sym (eqb-true q x e)))
some_or q x xs false e further hit =
    let later : list_any (eqb q) xs ≡ true = sym (rw e refl) ∙ hit in let (k, at) = further later in (suc k, at)

some_of : (xs : List ℕ) (q : ℕ) → list_any (eqb q) xs ≡ true → (k : ℕ) × (slice_get xs k ≡ Some q)
some_of [] q hit = cc
some_of (x ∷ xs) q hit = some_or q x xs (eqb q x) refl (λ e. some_of xs q e) hit

-- the order is no longer than there are places
pub order_len : (needs : List (List ℕ)) (order : List ℕ) → IsRightOrder needs order → length order ≤ length needs
order_len needs order right =
    length-le_from_distinct_below order (length needs)
    (IsDistinct-from_apart eqb order (λ i j d lt within.
    tells _ _ (λ same.
    let one = slice_get-get_or order i d (omega arith) in
    let other = slice_get-get_or order j d within ∙ ap (λ n. Some n) (sym same) in
    omega (arith, one_place _ order i j (once_or needs order right _) one other))))
    (λ q hit. let (k, at) = some_of order q hit in right.in_range k q at)

-- each place has a rank below their number
pub rank_below : (needs : List (List ℕ)) (order : List ℕ) → IsRightOrder needs order → (place : ℕ) → place < length needs
    → rank_in order place < length needs
rank_below needs order right place lt =
    omega (arith, slice_get_within order (rank_in order place) place (ranked needs order right place lt), order_len needs order right)
