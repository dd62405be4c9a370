use Rattle.std.proofs.Common.{◌∙◌, sym, arith, length}
use Rattle.net_model.proofs.Marking.{input_of, mapped_below, adds_mapped, twice_mapped}
use Rattle.net_model.proofs.marks.mark_settings.Goals as goal

pub mark-requires : goal.mark-requires
mark-requires c =
    let low = mapped_below input_of (length c.args.marks.now) c.args.settings.now c.loop-s.s c.at-setting.result c.at-setting.ensures c.requires in
    omega (arith, c.loop-s.invariant.len)

pub returns-then-mark : goal.returns-then-mark
returns-then-mark c =
    let settings = c.args.settings.now in
    let low = mapped_below input_of (length c.args.marks.now) settings c.loop-s.s c.at-setting.result c.at-setting.ensures c.requires in
    twice_mapped input_of settings c.loop-s.s c.at-setting.result c.args.marks.now c.loop-s.marks c.at-setting.ensures low
    (sym c.mark.ensures.was ∙ c.if-mark.true) c.loop-s.invariant

pub loop-s-preserved : goal.loop-s-preserved
loop-s-preserved c =
    let settings = c.args.settings.now in
    let low = mapped_below input_of (length c.args.marks.now) settings c.loop-s.s c.at-setting.result c.at-setting.ensures c.requires in
    rw c.mark.ensures.now (adds_mapped input_of settings c.loop-s.s c.at-setting.result c.args.marks.now c.loop-s.marks c.at-setting.ensures low
    (sym c.mark.ensures.was ∙ c.if-mark.false) c.loop-s.invariant)
