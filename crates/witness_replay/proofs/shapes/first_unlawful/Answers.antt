use Rattle.std.proofs.Common.{◌≡◌, arith, length, subst}
use Rattle.witness_replay.proofs.Kept.{RowsKept, rows_more, lawful_from}
use Rattle.witness_replay.proofs.shapes.first_unlawful.Goals as goal

pub loop-t-preserved : goal.loop-t-preserved
loop-t-preserved c =
    rows_more c.args.design.now c.args.stimulus.now c.loop-t.t c.item-ins.result.now c.item-ins.ensures
    (c.are_settings_kept.ensures.0 c.if-not-are_settings_kept.false) c.loop-t.invariant

pub returns-clause-none : goal.returns-clause-none
returns-clause-none c =
    let all : c.loop-t.t ≡ length c.args.stimulus.now.inputs = omega arith in
    lawful_from c.args.design.now c.args.stimulus.now c.requires.shape (subst (RowsKept c.args.design.now c.args.stimulus.now) all c.loop-t.invariant)
