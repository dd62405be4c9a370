use Rattle.std.proofs.Common.{◌∙◌}
use Rattle.std.proofs.lemmas.Result.{err_from_is_err_and}
use Rattle.verilog_net.specs.Hierarchies.{inner_of}
use Rattle.verilog_net.specs.Items as spec
use Rattle.verilog_scope.proofs.FailLemmas.{fails_through}
use Rattle.verilog_scope.proofs.FoldLemmas.{fold_more, fold_bad, fold_end}
use Rattle.verilog_net.proofs.insts.add_insts.Goals as goal

pub returns-in_err-add_inst : goal.returns-in_err-add_inst
returns-in_err-add_inst c =
    let p = err_from_is_err_and c.from_residual.result c.from_residual.ensures.1 in
    rw (p.1, p.2) (fails_through c.in_err-add_inst.field-0.0 _ _ c.in_err-add_inst.ensures
    (λ why bad. c.loop-decl.invariant ∙ fold_bad (spec.add_inst c.args.hierarchy.now.wide c.args.scope.now (inner_of c.args.hierarchy.now c.args.cell.now) c.args.cell.now)
    c.loop-decl.items c.args.list.now c.loop-decl.decl-index c.decl-item.result why
    c.loop-decl-test.true c.decl-item.is bad))

pub loop-decl-preserved : goal.loop-decl-preserved
loop-decl-preserved c = c.loop-decl.invariant ∙ fold_more (spec.add_inst c.args.hierarchy.now.wide c.args.scope.now (inner_of c.args.hierarchy.now c.args.cell.now)
    c.args.cell.now) c.loop-decl.items c.add_inst.new.items c.args.list.now c.loop-decl.decl-index
    c.decl-item.result c.loop-decl-test.true c.decl-item.is c.in_ok-add_inst.ensures

pub returns : goal.returns
returns c = c.loop-decl.invariant ∙ fold_end (spec.add_inst c.args.hierarchy.now.wide c.args.scope.now (inner_of c.args.hierarchy.now c.args.cell.now) c.args.cell.now)
    c.loop-decl.items c.args.list.now c.loop-decl.decl-index c.loop-decl-test.false
