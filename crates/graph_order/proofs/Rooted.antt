-- A search from each root in turn.
use Rattle.std.proofs.Common.{◌≡◌, ℕ, suc, ◌+◌, ◌<◌, ◌≤◌, Bool, true, false, List, [], length, drop, get_or, refl, ap, sym, ◌∙◌, arith}
use Rattle.std.proofs.Math.ListN.{drop_of_length-le}
use Rattle.std.specs.Prelude.{Contains, Result, Ok, Err}
use Rattle.std.specs.List.{range_with_len}
use Rattle.std.proofs.lemmas.List.FromFn.{length-range_with_len, get_or-range_with_len}
use Rattle.sdcv_base.specs.Steps.{after_all}
use Rattle.sdcv_base.proofs.StepLemmas.{after_all_more, after_all_bad, after_all_none}
use Rattle.graph_order.specs.Orders.{order_of, visited, Tells}
use Rattle.graph_order.specs.Visits.{IsVisiting}
use Rattle.graph_order.specs.declared.faults.OrderFault.{OrderFault}
use Rattle.graph_order.specs.declared.faults.OrderFault.TheVariants as fault
use Rattle.graph_order.proofs.Visiting.{all_done}
use Rattle.graph_order.proofs.Visited.{visited_passed}
use Rattle.graph_order.proofs.Resumed.{done_passed}

-- the places, each at its own
place_at : (n root : ℕ) → root < n → root ≡ get_or (range_with_len 0 n) root root
place_at n root lt = let is = get_or-range_with_len 0 n root root lt in omega arith

-- the places stand among themselves
pub among : (n k : ℕ) → k < n → Contains (range_with_len 0 n) k
among n k lt = let is = get_or-range_with_len 0 n k k lt in (k, omega (arith, length-range_with_len 0 n), omega arith)

-- the search from all roots is the order
pub roots_begin : (needs : List (List ℕ)) → after_all (visited (suc (length needs)) needs []) [] (drop 0 (range_with_len 0 (length needs))) ≡ order_of needs
unfolding order_of
roots_begin needs = refl

module _ (needs : List (List ℕ)) (order : List ℕ) (root : ℕ) (answer : Result (List ℕ) ℕ)
    (still : after_all (visited (suc (length needs)) needs []) order (drop root (range_with_len 0 (length needs))) ≡ answer) where
  -- one root more
  pub roots_more : (more : List ℕ) → root < length needs → visited (suc (length needs)) needs [] order root ≡ Ok more
      → after_all (visited (suc (length needs)) needs []) more (drop (root + 1) (range_with_len 0 (length needs))) ≡ answer
  roots_more more lt good =
      sym (after_all_more (visited (suc (length needs)) needs []) order (range_with_len 0 (length needs)) root root
      (omega (arith, length-range_with_len 0 (length needs))) (place_at (length needs) root lt) more good) ∙ still

  -- a loop is the answer
  pub roots_bad : (why : ℕ) → root < length needs → visited (suc (length needs)) needs [] order root ≡ Err why → answer ≡ Err why
  roots_bad why lt bad =
      sym still ∙ after_all_bad (visited (suc (length needs)) needs []) order (range_with_len 0 (length needs)) root root
      (omega (arith, length-range_with_len 0 (length needs))) (place_at (length needs) root lt) why bad

  -- what a fault of one search tells is the answer
  pub roots_tell : (e : OrderFault) → root < length needs → Tells (visited (suc (length needs)) needs [] order root) e → Tells answer e
  roots_tell (fault.Loop place) lt tells = roots_bad place lt tells
  roots_tell fault.Memory lt tells = tt

  -- no root is left
  pub roots_end : length needs ≤ root → answer ≡ Ok order
  roots_end past =
      let none : drop root (range_with_len 0 (length needs)) ≡ [] = drop_of_length-le (range_with_len 0 (length needs))
      (omega (arith, length-range_with_len 0 (length needs))) in
      sym still ∙ ap (after_all (visited (suc (length needs)) needs []) order) none ∙ after_all_none (visited (suc (length needs)) needs []) order

-- a root that was met is in the order
pub root_met : (needs : List (List ℕ)) (seen done : List Bool) (order : List ℕ) (root : ℕ) → IsVisiting needs [] seen done order → root < length needs
    → get_or seen root false ≡ true → visited (suc (length needs)) needs [] order root ≡ Ok order
root_met needs seen done order root v lt met =
    let hit = all_done (get_or done root false) (λ miss. let has = v.waits root lt met miss in omega (arith, has.1)) in
    visited_passed (suc (length needs)) needs [] order root (done_passed needs order done root (omega (arith, v.done_len)) v.marked hit)
