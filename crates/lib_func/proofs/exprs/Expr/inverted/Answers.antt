use Rattle.std.proofs.Common.{◌∙◌}
use Rattle.lib_func.proofs.ChainLemmas.{negated_step}
use Rattle.lib_func.proofs.exprs.Expr.inverted.Goals as goal

pub loop-preserved : goal.loop-preserved
loop-preserved c = c.loop.invariant ∙ negated_step c.args.count c.loop.counter c.loop.found c.loop-test.true ∙ rw c.in_ok-operand.ensures.ok
