use Rattle.std.proofs.Common.{take}
use Rattle.report_groups.specs.Counts.{AreCountsOf}
use Rattle.report_groups.proofs.counts.Counts.of.Given as goal

abbrev pub invariant-loop-key : goal.invariant-loop-key
invariant-loop-key l = AreCountsOf (take l.key-index l.keys) l.counts
