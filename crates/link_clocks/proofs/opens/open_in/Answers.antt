use Rattle.std.proofs.Common.{arith}
use Rattle.link_clocks.proofs.Marking.{closed_more}
use Rattle.link_clocks.proofs.opens.open_in.Goals as goal

pub loop-place-preserved : goal.loop-place-preserved
loop-place-preserved c =
    closed_more c.args.marks.now c.args.parts.now c.args.from c.loop-place.place c.item.result.now c.loop-place.invariant c.item.ensures
    c.in_default.ensures.none

pub returns-clause-none : goal.returns-clause-none
returns-clause-none c = λ k p low high at to hands. c.loop-place.invariant k p low (omega (arith, high)) at to hands
