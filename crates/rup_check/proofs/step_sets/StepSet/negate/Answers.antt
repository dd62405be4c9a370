use Rattle.std.proofs.Common.{arith}
use Rattle.std.proofs.lemmas.List.{get_or_read}
use Rattle.rup_check.proofs.Membership.{negated_more}
use Rattle.rup_check.proofs.step_sets.StepSet.negate.Goals as goal

pub loop-l-preserved : goal.loop-l-preserved
loop-l-preserved c =
    negated_more c.loop-l.self c.set.new.self c.args.clause.now c.loop-l.l-index c.l-item.result c.negated.result (omega arith)
    (get_or_read c.args.clause.now c.loop-l.l-index c.l-item.result (omega arith) c.l-item.is 0) c.negated.ensures c.loop-l.invariant c.in_ok-set.ensures
