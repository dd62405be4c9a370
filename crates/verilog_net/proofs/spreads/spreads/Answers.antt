use Rattle.std.proofs.Common.{◌∙◌}
use Rattle.std.proofs.lemmas.Result.{err_from_is_err_and}
use Rattle.verilog_net.specs.Spreads as spec
use Rattle.verilog_scope.proofs.FailLemmas.{fails_through}
use Rattle.verilog_scope.proofs.FoldLemmas.{fold_more, fold_bad, fold_end}
use Rattle.verilog_net.proofs.spreads.spreads.Goals as goal

pub returns-in_err-add_spread : goal.returns-in_err-add_spread
returns-in_err-add_spread c =
    let p = err_from_is_err_and c.from_residual-in_err-add_spread.result c.from_residual-in_err-add_spread.ensures.1 in
    rw (p.1, p.2) (fails_through c.in_err-add_spread.field-0.0 _ _ c.in_err-add_spread.ensures
    (λ why bad. c.loop-decl.invariant ∙ fold_bad (spec.add_spread c.args.scope.now) c.loop-decl.found c.args.list.now c.loop-decl.decl-index
    c.decl-item.result why c.loop-decl-test.true c.decl-item.is bad))

pub loop-decl-preserved : goal.loop-decl-preserved
loop-decl-preserved c =
    c.loop-decl.invariant ∙ fold_more (spec.add_spread c.args.scope.now) c.loop-decl.found c.add_spread.new.found c.args.list.now c.loop-decl.decl-index
    c.decl-item.result c.loop-decl-test.true c.decl-item.is c.in_ok-add_spread.ensures

pub returns : goal.returns
returns c = c.loop-decl.invariant
    ∙ fold_end (spec.add_spread c.args.scope.now) c.loop-decl.found c.args.list.now c.loop-decl.decl-index c.loop-decl-test.false
