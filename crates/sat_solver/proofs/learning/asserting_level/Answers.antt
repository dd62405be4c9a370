use Rattle.std.proofs.Common.{arith, below_more, slice_index}
use Rattle.sat_solver.proofs.learning.asserting_level.Goals as goal

pub loop-level-preserved : goal.loop-level-preserved
loop-level-preserved c =
    below_more _ _ c.loop-level.invariant (c.front_len-len.ensures.least (slice_index c.args.starts.now c.loop-level.level) (omega arith))
