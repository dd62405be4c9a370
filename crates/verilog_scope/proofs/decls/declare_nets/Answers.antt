use Rattle.std.proofs.Common.{◌∙◌}
use Rattle.std.proofs.lemmas.Result.{err_from_is_err_and}
use Rattle.verilog_scope.specs.Decls as spec
use Rattle.verilog_scope.proofs.FailLemmas.{fails_through}
use Rattle.verilog_scope.proofs.FoldLemmas.{fold_more, fold_bad, fold_end}
use Rattle.verilog_scope.proofs.decls.declare_nets.Goals as goal

pub returns-in_err-declare_net : goal.returns-in_err-declare_net
returns-in_err-declare_net c =
    let p = err_from_is_err_and c.from_residual.result c.from_residual.ensures.1 in
    rw (p.1, p.2) (fails_through c.in_err-declare_net.field-0.0 _ _ c.in_err-declare_net.ensures
    (λ why bad. c.loop-name.invariant ∙ fold_bad (spec.declare_net c.args.names.now c.args.kind.now c.args.range.now) c.loop-name.decls
    c.args.list.now c.loop-name.name-index c.name-item.result why
    c.loop-name-test.true c.name-item.is bad))

pub loop-name-preserved : goal.loop-name-preserved
loop-name-preserved c = c.loop-name.invariant ∙ fold_more (spec.declare_net c.args.names.now c.args.kind.now c.args.range.now) c.loop-name.decls
    c.declare_net.new.decls c.args.list.now c.loop-name.name-index
    c.name-item.result c.loop-name-test.true c.name-item.is c.in_ok-declare_net.ensures

pub returns : goal.returns
returns c = c.loop-name.invariant ∙ fold_end (spec.declare_net c.args.names.now c.args.kind.now c.args.range.now) c.loop-name.decls c.args.list.now
    c.loop-name.name-index c.loop-name-test.false
