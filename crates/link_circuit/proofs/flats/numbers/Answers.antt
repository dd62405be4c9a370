use Rattle.std.proofs.Common.{arith}
use Rattle.link_items.proofs.Along.{numbers_more}
use Rattle.link_items.proofs.Listing.{push_more}
use Rattle.link_circuit.proofs.flats.numbers.Goals as goal

pub loop-k-preserved : goal.loop-k-preserved
loop-k-preserved c = push_more _ _ _ _ _ _ c.in_ok-push.ensures.ok c.loop-k.invariant (omega arith) (numbers_more 0 c.loop-k.k)
