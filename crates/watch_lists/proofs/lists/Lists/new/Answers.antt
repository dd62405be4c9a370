use Rattle.std.proofs.Common.{replicate, [], ap, arith}
use Rattle.watch_lists.proofs.Linking.{IsLists-new, closed}
use Rattle.watch_lists.proofs.lists.Lists.new.Goals as goal

pub invariant_of-result : goal.invariant_of-result
invariant_of-result c =
    let heads = c.in_ok-heads.heads.items in
    rw c.new.ensures.items (
      (closed [] heads (replicate c.args.count []) (IsLists-new heads c.args.count (c.in_ok-heads.ensures.items_if_clones_equal (λ y e. e)))).0,
      omega arith,
    )

pub returns : goal.returns
returns c =
    let heads = c.in_ok-heads.heads.items in
    rw c.new.ensures.items (ap (λ ls. record { nodes = 0; lists = ls })
    (closed [] heads (replicate c.args.count []) (IsLists-new heads c.args.count (c.in_ok-heads.ensures.items_if_clones_equal (λ y e. e)))).1)
