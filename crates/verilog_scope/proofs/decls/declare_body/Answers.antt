use Rattle.std.proofs.Common.{◌∙◌}
use Rattle.std.proofs.lemmas.Result.{err_from_is_err_and}
use Rattle.verilog_scope.specs.Decls as spec
use Rattle.verilog_scope.proofs.FailLemmas.{fails_through}
use Rattle.verilog_scope.proofs.FoldLemmas.{fold_more, fold_bad, fold_end}
use Rattle.verilog_scope.proofs.decls.declare_body.Goals as goal

pub returns-in_err-declare_listed : goal.returns-in_err-declare_listed
returns-in_err-declare_listed c =
    let p = err_from_is_err_and c.from_residual.result c.from_residual.ensures.1 in
    rw (p.1, p.2) (fails_through c.in_err-declare_listed.field-0.0 _ _ c.in_err-declare_listed.ensures
    (λ why bad. c.loop-port.invariant ∙ fold_bad (spec.declare_listed c.args.names.now c.args.listed.now) c.loop-port.decls c.args.list.now
    c.loop-port.port-index c.port-item.result why
    c.loop-port-test.true c.port-item.is bad))

pub loop-port-preserved : goal.loop-port-preserved
loop-port-preserved c = c.loop-port.invariant ∙ fold_more (spec.declare_listed c.args.names.now c.args.listed.now) c.loop-port.decls
    c.declare_listed.new.decls c.args.list.now c.loop-port.port-index
    c.port-item.result c.loop-port-test.true c.port-item.is c.in_ok-declare_listed.ensures

pub returns : goal.returns
returns c = c.loop-port.invariant ∙ fold_end (spec.declare_listed c.args.names.now c.args.listed.now) c.loop-port.decls c.args.list.now
    c.loop-port.port-index c.loop-port-test.false
