use Rattle.std.proofs.Common.{◌∙◌, sym, arith, length}
use Rattle.net_model.proofs.Sources.{net_of}
use Rattle.net_model.proofs.Marking.{mapped_below, adds_mapped, twice_mapped}
use Rattle.net_model.proofs.marks.mark_outs.Goals as goal

pub mark-requires : goal.mark-requires
mark-requires c =
    let low = mapped_below net_of (length c.args.marks.now) c.args.reg.now.outs c.loop-o.o c.at-out.result c.at-out.ensures c.requires in
    omega (arith, c.loop-o.invariant.len)

pub returns-then-mark : goal.returns-then-mark
returns-then-mark c =
    let outs = c.args.reg.now.outs in
    let low = mapped_below net_of (length c.args.marks.now) outs c.loop-o.o c.at-out.result c.at-out.ensures c.requires in
    twice_mapped net_of outs c.loop-o.o c.at-out.result c.args.marks.now c.loop-o.marks c.at-out.ensures low (sym c.mark.ensures.was ∙ c.if-mark.true)
    c.loop-o.invariant

pub loop-o-preserved : goal.loop-o-preserved
loop-o-preserved c =
    let outs = c.args.reg.now.outs in
    let low = mapped_below net_of (length c.args.marks.now) outs c.loop-o.o c.at-out.result c.at-out.ensures c.requires in
    rw c.mark.ensures.now (adds_mapped net_of outs c.loop-o.o c.at-out.result c.args.marks.now c.loop-o.marks c.at-out.ensures low
    (sym c.mark.ensures.was ∙ c.if-mark.false) c.loop-o.invariant)
