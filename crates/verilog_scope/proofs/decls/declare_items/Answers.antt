use Rattle.std.proofs.Common.{◌∙◌}
use Rattle.std.proofs.lemmas.Result.{err_from_is_err_and}
use Rattle.verilog_scope.specs.Decls as spec
use Rattle.verilog_scope.proofs.FailLemmas.{fails_through}
use Rattle.verilog_scope.proofs.FoldLemmas.{fold_more, fold_bad, fold_end}
use Rattle.verilog_scope.proofs.decls.declare_items.Goals as goal

pub returns-in_err-declare_item : goal.returns-in_err-declare_item
returns-in_err-declare_item c =
    let p = err_from_is_err_and c.from_residual.result c.from_residual.ensures.1 in
    rw (p.1, p.2) (fails_through c.in_err-declare_item.field-0.0 _ _ c.in_err-declare_item.ensures
    (λ why bad. c.loop-item.invariant ∙ fold_bad (spec.declare_item c.args.names.now c.args.listed.now) c.loop-item.decls c.args.items.now
    c.loop-item.item-index c.item-item.result why
    c.loop-item-test.true c.item-item.is bad))

pub loop-item-preserved : goal.loop-item-preserved
loop-item-preserved c = c.loop-item.invariant ∙ fold_more (spec.declare_item c.args.names.now c.args.listed.now) c.loop-item.decls
    c.declare_item.new.decls c.args.items.now c.loop-item.item-index
    c.item-item.result c.loop-item-test.true c.item-item.is c.in_ok-declare_item.ensures

pub returns : goal.returns
returns c = c.loop-item.invariant ∙ fold_end (spec.declare_item c.args.names.now c.args.listed.now) c.loop-item.decls c.args.items.now
    c.loop-item.item-index c.loop-item-test.false
