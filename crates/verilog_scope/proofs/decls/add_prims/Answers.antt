use Rattle.std.proofs.Common.{◌∙◌}
use Rattle.std.proofs.lemmas.Result.{err_from_is_err_and}
use Rattle.verilog_scope.specs.Decls as spec
use Rattle.verilog_scope.proofs.FailLemmas.{fails_through}
use Rattle.verilog_scope.proofs.FoldLemmas.{fold_more, fold_bad, fold_end}
use Rattle.verilog_scope.proofs.decls.add_prims.Goals as goal

pub returns-in_err-add_prim : goal.returns-in_err-add_prim
returns-in_err-add_prim c =
    let p = err_from_is_err_and c.from_residual.result c.from_residual.ensures.1 in
    rw (p.1, p.2) (fails_through c.in_err-add_prim.field-0.0 _ _ c.in_err-add_prim.ensures
    (λ why bad. c.loop-prim.invariant ∙ fold_bad spec.with_prim c.loop-prim.names c.args.list.now c.loop-prim.prim-index c.prim-item.result why
    c.loop-prim-test.true c.prim-item.is bad))

pub loop-prim-preserved : goal.loop-prim-preserved
loop-prim-preserved c = c.loop-prim.invariant ∙ fold_more spec.with_prim c.loop-prim.names c.add_prim.new.names c.args.list.now c.loop-prim.prim-index
    c.prim-item.result c.loop-prim-test.true c.prim-item.is c.in_ok-add_prim.ensures

pub returns : goal.returns
returns c = c.loop-prim.invariant ∙ fold_end spec.with_prim c.loop-prim.names c.args.list.now c.loop-prim.prim-index c.loop-prim-test.false
