use Rattle.std.proofs.Common.{arith}
use Rattle.mend_lines.proofs.Counting.{group_counted}
use Rattle.mend_lines.proofs.counts.group_count.Goals as goal

pub returns-clause-count : goal.returns-clause-count
returns-clause-count c =
    let whole = group_counted c.args.group.now in
    omega (arith, whole, c.class_count.ensures.count, c.class_count-2.ensures.count, c.class_count-3.ensures.count)
