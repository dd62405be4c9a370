use Rattle.std.proofs.Common.{◌∙◌}
use Rattle.std.proofs.lemmas.Result.{err_from_is_err_and}
use Rattle.verilog_net.specs.Wires as spec
use Rattle.verilog_scope.proofs.FailLemmas.{fails_through}
use Rattle.verilog_scope.proofs.FoldLemmas.{fold_more, fold_bad, fold_end}
use Rattle.verilog_net.proofs.wires.wires_of.Goals as goal

pub returns-in_err-add_part : goal.returns-in_err-add_part
returns-in_err-add_part c =
    let p = err_from_is_err_and c.from_residual.result c.from_residual.ensures.1 in
    rw (p.1, p.2) (fails_through c.in_err-add_part.field-0.0 _ _ c.in_err-add_part.ensures
    (λ why bad. c.loop-part.invariant ∙ fold_bad (spec.add_part c.args.scope.now) c.loop-part.found c.args.parts.now c.loop-part.part-index
    c.part-item.result why
    c.loop-part-test.true c.part-item.is bad))

pub loop-part-preserved : goal.loop-part-preserved
loop-part-preserved c = c.loop-part.invariant ∙ fold_more (spec.add_part c.args.scope.now) c.loop-part.found c.add_part.new.found c.args.parts.now
    c.loop-part.part-index
    c.part-item.result c.loop-part-test.true c.part-item.is c.in_ok-add_part.ensures

pub returns : goal.returns
returns c = c.loop-part.invariant ∙ fold_end (spec.add_part c.args.scope.now) c.loop-part.found c.args.parts.now c.loop-part.part-index c.loop-part-test.false
