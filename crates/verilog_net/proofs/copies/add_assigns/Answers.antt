use Rattle.std.proofs.Common.{◌∙◌}
use Rattle.std.proofs.lemmas.Result.{err_from_is_err_and}
use Rattle.verilog_net.specs.Items as spec
use Rattle.verilog_scope.proofs.FailLemmas.{fails_through}
use Rattle.verilog_scope.proofs.FoldLemmas.{fold_more, fold_bad, fold_end}
use Rattle.verilog_net.proofs.copies.add_assigns.Goals as goal

pub returns-in_err-add_assign : goal.returns-in_err-add_assign
returns-in_err-add_assign c =
    let p = err_from_is_err_and c.from_residual.result c.from_residual.ensures.1 in
    rw (p.1, p.2) (fails_through c.in_err-add_assign.field-0.0 _ _ c.in_err-add_assign.ensures
    (λ why bad. c.loop-assign.invariant ∙ fold_bad (spec.add_assign c.args.scope.now) c.loop-assign.items c.args.list.now c.loop-assign.assign-index
    c.assign-item.result why
    c.loop-assign-test.true c.assign-item.is bad))

pub loop-assign-preserved : goal.loop-assign-preserved
loop-assign-preserved c = c.loop-assign.invariant ∙ fold_more (spec.add_assign c.args.scope.now) c.loop-assign.items c.add_assign.new.items
    c.args.list.now c.loop-assign.assign-index
    c.assign-item.result c.loop-assign-test.true c.assign-item.is c.in_ok-add_assign.ensures

pub returns : goal.returns
returns c = c.loop-assign.invariant ∙ fold_end (spec.add_assign c.args.scope.now) c.loop-assign.items c.args.list.now c.loop-assign.assign-index
    c.loop-assign-test.false
