-- Places that need only places below them stay as they stand.
use Rattle.std.proofs.Common.{◌≡◌, ℕ, zero, suc, ◌+◌, ◌<◌, true, false, List, [], ◌∷◌, ◌++◌, length, get_or, refl, ap, sym, ◌∙◌, arith, inl, inr}
use Rattle.std.specs.Prelude.{Ok, nat_eq, nat_le}
use Rattle.std.specs.List.{list_any, range_with_len}
use Rattle.std.proofs.lemmas.Bool.{cases_lt, lt-leb, or_right, or_from}
use Rattle.std.proofs.lemmas.List.{get_or_default}
use Rattle.std.proofs.lemmas.List.FromFn.{length-range_with_len, get_or-range_with_len}
use Rattle.sdcv_base.specs.Steps.{after_all}
use Rattle.graph_order.specs.Needs.{needs_of}
use Rattle.graph_order.specs.Orders.{visited, order_of, is_passed, NeedsBelow}
use Rattle.graph_order.proofs.Visited.{any_from, none_from, visited_new, all_passed}
use Rattle.graph_order.proofs.Resumed.{past_passed}
use Rattle.graph_order.proofs.Rooted.{among}

-- one number more
range_more : (s n : ℕ) → range_with_len s (suc n) ≡ range_with_len s n ++ (s + n) ∷ []
range_more s zero = let e : s ≡ s + 0 = omega arith in ap (λ (m : ℕ). m ∷ []) e
range_more s (suc n) = let e : s + 1 + n ≡ s + suc n = omega arith in
    ap (λ (ms : List ℕ). s ∷ ms) (range_more (s + 1) n ∙ ap (λ (m : ℕ). range_with_len (s + 1) n ++ m ∷ []) e)

-- what is below, or no place, is passed
below_passed : (needs : List (List ℕ)) (r need : ℕ) → (need < length needs → need < r) → is_passed needs (range_with_len 0 r) need ≡ true
below_passed needs r need below = elim (cases_lt need (length needs)) [
  | inr past ↦ past_passed needs (range_with_len 0 r) need past
  | inl lt ↦
      or_right (nat_le (length needs) need) (list_any (nat_eq need) (range_with_len 0 r)) (any_from (range_with_len 0 r) need (among r need (below lt)))
]

-- the next place is not passed
next_waits : (needs : List (List ℕ)) (r : ℕ) → r < length needs → is_passed needs (range_with_len 0 r) r ≡ false
next_waits needs r lt = or_from (nat_le (length needs) r) (list_any (nat_eq r) (range_with_len 0 r)) (lt-leb (length needs) r lt)
    (none_from (range_with_len 0 r) r (λ has.
    let within : has.0 < r = omega (arith, has.1, length-range_with_len 0 r) in
    let is = get_or-range_with_len 0 r has.0 r within in
    omega (arith, has.2)))

-- the next place goes to the end
next_last : (n : ℕ) (needs : List (List ℕ)) (r : ℕ) → NeedsBelow needs → r < length needs
    → visited (suc n) needs [] (range_with_len 0 r) r ≡ Ok (range_with_len 0 (r + 1))
next_last n needs r below lt =
    let inner : after_all (visited n needs (r ∷ [])) (range_with_len 0 r) (needs_of needs r) ≡ Ok (range_with_len 0 r) =
    all_passed n needs (r ∷ []) (range_with_len 0 r) (needs_of needs r)
    (λ i d within. below_passed needs r (get_or (needs_of needs r) i d) (below r (get_or (needs_of needs r) i d)
    (i, within, get_or_default (needs_of needs r) i (get_or (needs_of needs r) i d) d within))) in
    let longer : range_with_len 0 r ++ r ∷ [] ≡ range_with_len 0 (r + 1) =
    let zero_first : 0 + r ≡ r = omega arith in let one : suc r ≡ r + 1 = omega arith in
    sym (ap (λ (m : ℕ). range_with_len 0 m) (sym one) ∙ range_more 0 r ∙ ap (λ (m : ℕ). range_with_len 0 r ++ m ∷ []) zero_first) in
    visited_new n needs [] (range_with_len 0 r) r (next_waits needs r lt) refl ∙ rw (inner, longer) refl

-- and so do all that are left
rest_last : (n : ℕ) (needs : List (List ℕ)) (m r : ℕ) → NeedsBelow needs → r + m ≡ length needs
    → after_all (visited (suc n) needs []) (range_with_len 0 r) (range_with_len r m) ≡ Ok (range_with_len 0 (length needs))
unfolding after_all
rest_last n needs zero r below all = let same : r ≡ length needs = omega arith in ap (λ (k : ℕ). Ok (range_with_len 0 k)) same
rest_last n needs (suc m) r below all =
    let first : visited (suc n) needs [] (range_with_len 0 r) r ≡ Ok (range_with_len 0 (r + 1)) = next_last n needs r below (omega arith) in
    rw first (rest_last n needs m (r + 1) below (omega arith))

-- places that need only places below them stay as they stand
pub order_ascending : (needs : List (List ℕ)) → NeedsBelow needs → order_of needs ≡ Ok (range_with_len 0 (length needs))
unfolding order_of
order_ascending needs below = rest_last (length needs) needs (length needs) 0 below (omega arith)
