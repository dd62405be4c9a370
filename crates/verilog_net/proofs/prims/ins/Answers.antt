use Rattle.std.proofs.Common.{◌∙◌, ◌++◌, ◌∷◌, [], refl}
use Rattle.std.proofs.lemmas.Result.{err_from_is_err_and}
use Rattle.verilog_net.specs.Wires as wires
use Rattle.verilog_scope.specs.Folds.{pushing}
use Rattle.verilog_scope.proofs.FailLemmas.{fails_through}
use Rattle.verilog_scope.proofs.FoldLemmas.{fold_more, fold_bad, fold_end, pushed_more, pushed_bad}
use Rattle.verilog_net.proofs.prims.ins.Goals as goal

pub returns-in_err-wire : goal.returns-in_err-wire
returns-in_err-wire c =
    let p = err_from_is_err_and c.from_residual.result c.from_residual.ensures.1 in
    rw (p.1, p.2) (fails_through c.in_err-wire.field-0.0 _ _ c.in_err-wire.ensures
    (λ why bad. c.loop-term.invariant ∙ fold_bad (pushing (wires.wire_of c.args.scope.now)) c.loop-term.found c.args.list.now c.loop-term.term-index
    c.term-item.result why
    c.loop-term-test.true c.term-item.is (pushed_bad (wires.wire_of c.args.scope.now) c.loop-term.found c.term-item.result why bad)))

pub loop-term-preserved : goal.loop-term-preserved
loop-term-preserved c = c.loop-term.invariant ∙ fold_more (pushing (wires.wire_of c.args.scope.now)) c.loop-term.found
    (c.loop-term.found ++ c.in_ok-wire.wire ∷ []) c.args.list.now
    c.loop-term.term-index c.term-item.result c.loop-term-test.true c.term-item.is
    (pushed_more (wires.wire_of c.args.scope.now) c.loop-term.found c.term-item.result c.in_ok-wire.wire c.in_ok-wire.ensures) ∙ rw c.in_ok-push.ensures.ok refl

pub returns : goal.returns
returns c = c.loop-term.invariant ∙ fold_end (pushing (wires.wire_of c.args.scope.now)) c.loop-term.found c.args.list.now c.loop-term.term-index
    c.loop-term-test.false
