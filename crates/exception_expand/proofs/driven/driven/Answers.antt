use Rattle.exception_expand.proofs.Driving.{driven_none, driven_more}
use Rattle.exception_expand.proofs.driven.driven.Goals as goal

pub loop-k-init : goal.loop-k-init
loop-k-init c = driven_none c.in_ok-marks.marks c.args.inputs c.in_ok-marks.ensures.len c.in_ok-marks.ensures.each

pub loop-k-preserved : goal.loop-k-preserved
loop-k-preserved c =
    driven_more c.args.cells.now c.loop-k.k c.item.result.now c.args.inputs c.loop-k.marks c.mark_pins.new.marks c.item.ensures c.loop-k.invariant
    c.mark_pins.ensures.len c.mark_pins.ensures.marked
