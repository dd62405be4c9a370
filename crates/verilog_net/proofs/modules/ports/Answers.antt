use Rattle.std.proofs.Common.{◌∙◌}
use Rattle.std.proofs.lemmas.Result.{err_from_is_err_and}
use Rattle.verilog_net.specs.Modules.{add_port}
use Rattle.verilog_scope.proofs.FailLemmas.{fails_through}
use Rattle.verilog_scope.proofs.FoldLemmas.{fold_map_more, fold_map_bad, fold_map_end}
use Rattle.verilog_net.proofs.modules.ports.Goals as goal

pub returns-in_err-add_port : goal.returns-in_err-add_port
returns-in_err-add_port g c =
    let p = err_from_is_err_and c.from_residual.result c.from_residual.ensures.1 in
    rw (p.1, p.2) (fails_through c.in_err-add_port.field-0.0 _ _ c.in_err-add_port.ensures
    (λ why bad. c.loop-one.invariant ∙ fold_map_bad (add_port c.args.scope.now) g.T.Listed.spelled c.loop-one.found c.args.list.now c.loop-one.one-index
    c.one-item.result why c.loop-one-test.true c.one-item.is (rw c.spelled.ensures at bad)))

pub loop-one-preserved : goal.loop-one-preserved
loop-one-preserved g c =
    c.loop-one.invariant ∙ fold_map_more (add_port c.args.scope.now) g.T.Listed.spelled c.loop-one.found c.add_port.new.found c.args.list.now
    c.loop-one.one-index c.one-item.result c.loop-one-test.true c.one-item.is (rw c.spelled.ensures at c.in_ok-add_port.ensures)

pub returns : goal.returns
returns g c =
    c.loop-one.invariant ∙ fold_map_end (add_port c.args.scope.now) g.T.Listed.spelled c.loop-one.found c.args.list.now c.loop-one.one-index
    c.loop-one-test.false
