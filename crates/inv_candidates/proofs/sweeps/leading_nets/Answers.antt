use Rattle.inv_candidates.proofs.Marking.{leading_from_swept}
use Rattle.inv_candidates.proofs.sweeps.leading_nets.Goals as goal

pub returns : goal.returns
returns c =
    leading_from_swept c.args.design.now c.args.regs.now c.in_ok-marks.marks c.mark_pins.new.marks c.sweep.new.marks c.in_ok-marks.ensures.len
    c.in_ok-marks.ensures.each c.mark_pins.ensures c.sweep.ensures
