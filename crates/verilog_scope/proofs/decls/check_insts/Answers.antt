use Rattle.std.proofs.Common.{◌∙◌}
use Rattle.std.proofs.lemmas.Result.{err_from_is_err_and}
use Rattle.verilog_scope.specs.Decls as spec
use Rattle.verilog_scope.proofs.FailLemmas.{fails_through}
use Rattle.verilog_scope.proofs.FoldLemmas.{fold_more, fold_bad, fold_end}
use Rattle.verilog_scope.proofs.decls.check_insts.Goals as goal

pub returns-in_err-add_insts : goal.returns-in_err-add_insts
returns-in_err-add_insts c =
    let p = err_from_is_err_and c.from_residual.result c.from_residual.ensures.1 in
    rw (p.1, p.2) (fails_through c.in_err-add_insts.field-0.0 _ _ c.in_err-add_insts.ensures
    (λ why bad. c.loop-item.invariant ∙ fold_bad spec.with_insts c.loop-item.names c.args.items.now c.loop-item.item-index c.item-item.result why
    c.loop-item-test.true c.item-item.is bad))

pub loop-item-preserved : goal.loop-item-preserved
loop-item-preserved c = c.loop-item.invariant ∙ fold_more spec.with_insts c.loop-item.names c.add_insts.new.names c.args.items.now c.loop-item.item-index
    c.item-item.result c.loop-item-test.true c.item-item.is c.in_ok-add_insts.ensures

pub returns : goal.returns
returns c = c.loop-item.invariant ∙ fold_end spec.with_insts c.loop-item.names c.args.items.now c.loop-item.item-index c.loop-item-test.false
