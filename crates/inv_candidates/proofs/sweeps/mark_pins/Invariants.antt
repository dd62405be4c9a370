use Rattle.std.proofs.Common.{take}
use Rattle.inv_candidates.specs.Leading.{AreAdded, pin_nets}
use Rattle.inv_candidates.proofs.sweeps.mark_pins.Given as goal

abbrev pub invariant-loop-k : goal.invariant-loop-k
invariant-loop-k l = AreAdded (pin_nets l.design (take l.k l.regs)) l.fn.marks l.marks
