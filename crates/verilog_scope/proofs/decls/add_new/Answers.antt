use Rattle.std.proofs.Common.{◌∙◌}
use Rattle.std.proofs.lemmas.Result.{err_from_is_err_and}
use Rattle.verilog_scope.specs.Decls as spec
use Rattle.verilog_scope.proofs.FailLemmas.{fails_through}
use Rattle.verilog_scope.proofs.FoldLemmas.{fold_map_more, fold_map_bad, fold_map_end}
use Rattle.verilog_scope.proofs.decls.add_new.Goals as goal

pub returns-in_err-add_one : goal.returns-in_err-add_one
returns-in_err-add_one g c =
    let p = err_from_is_err_and c.from_residual.result c.from_residual.ensures.1 in
    rw (p.1, p.2) (fails_through c.in_err-add_one.field-0.0 _ _ c.in_err-add_one.ensures
    (λ why bad. c.loop-one.invariant ∙ fold_map_bad spec.with_new g.T.Named.named c.loop-one.names c.args.these.now c.loop-one.one-index
    c.one-item.result why c.loop-one-test.true c.one-item.is (rw c.name.ensures at bad)))

pub loop-one-preserved : goal.loop-one-preserved
loop-one-preserved g c =
    c.loop-one.invariant ∙ fold_map_more spec.with_new g.T.Named.named c.loop-one.names c.add_one.new.names c.args.these.now c.loop-one.one-index
    c.one-item.result c.loop-one-test.true c.one-item.is (rw c.name.ensures at c.in_ok-add_one.ensures)

pub returns : goal.returns
returns g c = c.loop-one.invariant ∙ fold_map_end spec.with_new g.T.Named.named c.loop-one.names c.args.these.now c.loop-one.one-index c.loop-one-test.false
