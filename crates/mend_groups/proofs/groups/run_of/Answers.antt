use Rattle.mend_groups.proofs.Comparing.{run_more, run_ends, run_over}
use Rattle.mend_groups.proofs.groups.run_of.Goals as goal

pub returns-then-not-is_start-clause-is : goal.returns-then-not-is_start-clause-is
returns-then-not-is_start-clause-is c =
    run_ends c.args.start c.args.rows.now c.loop-k.k _ c.is_start.result c.loop-k-test.true c.loop-k.invariant c.is_start.ensures c.if-not-is_start.true

pub loop-k-preserved : goal.loop-k-preserved
loop-k-preserved c =
    run_more c.args.start c.args.rows.now c.loop-k.k _ c.is_start.result c.loop-k-test.true c.loop-k.invariant c.is_start.ensures c.if-not-is_start.false

pub returns-clause-is : goal.returns-clause-is
returns-clause-is c = run_over c.args.start c.args.rows.now c.loop-k.k c.loop-k-test.false c.loop-k.auto.k-end c.loop-k.invariant
