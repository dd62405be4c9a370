use Rattle.exception_expand.proofs.Placing.{marks_next}
use Rattle.exception_expand.proofs.marks.mark_all.Goals as goal

pub loop-k-preserved : goal.loop-k-preserved
loop-k-preserved g c =
    marks_next (g.T.Listed.all c.args.design.now) c.args.items.now c.loop-k.k c.at.result c.loop-k.marks c.mark.new.marks c.at.ensures c.loop-k.invariant
    c.mark.ensures.len c.mark.ensures.marked
