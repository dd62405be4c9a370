use Rattle.std.proofs.Common.{refl}
use Rattle.link_items.proofs.Along.{numbers_more}
use Rattle.link_items.proofs.Listing.{push_more}
use Rattle.link_items.proofs.joins.numbers.Goals as goal

pub loop-k-preserved : goal.loop-k-preserved
loop-k-preserved c =
    push_more _ _ _ _ _ _ c.in_ok-push.ensures.ok c.loop-k.invariant refl (numbers_more c.args.first c.loop-k.k)
