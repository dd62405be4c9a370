use Rattle.std.proofs.Common.{◌≡◌, map, take}
use Rattle.frame_unroll.specs.Counted.{reg_marks}
use Rattle.frame_unroll.proofs.counted_places.reg_places.Given as goal

abbrev pub invariant-loop-r : goal.invariant-loop-r
invariant-loop-r l = l.found ≡ map (reg_marks l.coding) (take l.r l.design.regs)
