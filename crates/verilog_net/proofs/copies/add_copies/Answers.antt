use Rattle.std.proofs.Common.{◌∙◌, false, get_or, sym, arith}
use Rattle.std.proofs.lemmas.List.{get_or_default}
use Rattle.std.proofs.lemmas.Result.{err_from_is_err_and}
use Rattle.netlist_types.specs.declared.sources.Wire.TheVariants as wire
use Rattle.verilog_net.specs.Items.{add_copy}
use Rattle.verilog_scope.proofs.FailLemmas.{fails_through}
use Rattle.verilog_scope.proofs.FoldLemmas.{both_more, both_bad, both_end}
use Rattle.verilog_net.proofs.copies.add_copies.Goals as goal

pub returns-in_err-add_copy : goal.returns-in_err-add_copy
returns-in_err-add_copy c =
    let to = c.args.to.now in
    let from = c.args.from.now in
    let i = c.loop-i.i in
    let x = get_or to i (wire.Const false) in
    let y = get_or from i (wire.Const false) in
    let p = err_from_is_err_and c.from_residual.result c.from_residual.ensures.1 in
    rw (p.1, p.2) (fails_through c.in_err-add_copy.field-0.0 _ _ c.in_err-add_copy.ensures
    (λ why bad. c.loop-i.invariant ∙ both_bad (add_copy c.args.offset) to from c.requires c.loop-i.items i x y why c.loop-i-test.true
    (sym (get_or_default to i x (wire.Const false) c.loop-i-test.true)) (sym (get_or_default from i y (wire.Const false) (omega arith))) bad))

pub loop-i-preserved : goal.loop-i-preserved
loop-i-preserved c =
    let to = c.args.to.now in
    let from = c.args.from.now in
    let i = c.loop-i.i in
    let x = get_or to i (wire.Const false) in
    let y = get_or from i (wire.Const false) in
    c.loop-i.invariant ∙ both_more (add_copy c.args.offset) to from c.requires c.loop-i.items c.add_copy.new.items i x y c.loop-i-test.true
    (sym (get_or_default to i x (wire.Const false) c.loop-i-test.true)) (sym (get_or_default from i y (wire.Const false) (omega arith)))
    c.in_ok-add_copy.ensures

pub returns : goal.returns
returns c = c.loop-i.invariant ∙ both_end (add_copy c.args.offset) c.args.to.now c.args.from.now c.requires c.loop-i.items c.loop-i.i c.loop-i-test.false
