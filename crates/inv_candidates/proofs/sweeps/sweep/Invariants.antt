use Rattle.std.proofs.Common.{◌-◌}
use Rattle.inv_candidates.specs.Leading.{AreSwept}
use Rattle.inv_candidates.proofs.sweeps.sweep.Given as goal

abbrev pub invariant-loop-seen : goal.invariant-loop-seen
invariant-loop-seen l = AreSwept l.design (l.count - l.seen) l.fn.marks l.marks
