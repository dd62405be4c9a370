use Rattle.std.proofs.Common.{arith}
use Rattle.report_groups.proofs.Counting.{counts_more}
use Rattle.report_groups.proofs.counts.Counts.of.Goals as goal

pub loop-key-preserved : goal.loop-key-preserved
loop-key-preserved c =
    counts_more c.args.keys.now c.loop-key.key-index c.key-item.result c.loop-key.counts c.add.new.self (omega arith)
    c.key-item.is c.loop-key.invariant c.in_ok-add.ensures
