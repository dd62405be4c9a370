-- Orders in which each place comes after what it needs.
use Rattle.std.proofs.Common.{◌≡◌, [], ◌∷◌, refl, arith}
use Rattle.std.specs.Prelude.{Ok, Err}
use Rattle.sdcv_base.specs.Steps.{after_all}
use Rattle.graph_order.specs.Orders.{order_of, visited, IsRightOrder}

-- what is needed comes first
pub need_comes_first : order_of ((1 ∷ []) ∷ [] ∷ []) ≡ Ok (1 ∷ 0 ∷ [])
unfolding order_of visited after_all
need_comes_first = refl

-- of two that need nothing the first comes first
places_without_needs_keep_their_order : order_of ([] ∷ [] ∷ [] ∷ []) ≡ Ok (0 ∷ 1 ∷ 2 ∷ [])
unfolding order_of visited after_all
places_without_needs_keep_their_order = refl

-- what two places need comes once
need_of_two_comes_once : order_of ((2 ∷ []) ∷ (2 ∷ []) ∷ [] ∷ []) ≡ Ok (2 ∷ 0 ∷ 1 ∷ [])
unfolding order_of visited after_all
need_of_two_comes_once = refl

-- needs are met in their order
needs_are_met_in_their_order : order_of ((2 ∷ 1 ∷ []) ∷ [] ∷ [] ∷ []) ≡ Ok (2 ∷ 1 ∷ 0 ∷ [])
unfolding order_of visited after_all
needs_are_met_in_their_order = refl

-- a need that is no place counts for nothing
need_of_no_place_counts_for_nothing : order_of ((7 ∷ []) ∷ []) ≡ Ok (0 ∷ [])
unfolding order_of visited after_all
need_of_no_place_counts_for_nothing = refl

-- each needs the other, and the first is told
loop_is_told_at_the_place_that_waits_again : order_of ((1 ∷ []) ∷ (0 ∷ []) ∷ []) ≡ Err 0
unfolding order_of visited after_all
loop_is_told_at_the_place_that_waits_again = refl

-- a place that needs itself
place_that_needs_itself_is_a_loop : order_of ([] ∷ (1 ∷ []) ∷ []) ≡ Err 1
unfolding order_of visited after_all
place_that_needs_itself_is_a_loop = refl

-- the first place needs the second, which stands later
order_with_a_later_need_is_wrong : ¬ IsRightOrder ((1 ∷ []) ∷ [] ∷ []) (0 ∷ 1 ∷ [])
order_with_a_later_need_is_wrong right = let has = right.earlier 0 0 1 refl (0, omega arith, refl) (omega arith) in omega (arith, has.1)

-- a place is left out
order_without_a_place_is_wrong : ¬ IsRightOrder ([] ∷ [] ∷ []) (0 ∷ [])
order_without_a_place_is_wrong right = omega (arith, right.each_once 1 (omega arith))
