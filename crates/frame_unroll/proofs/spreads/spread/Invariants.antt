use Rattle.std.proofs.Common.{◌-◌, ◌^◌}
use Rattle.frame_unroll.proofs.Spreading.{Spreads}
use Rattle.frame_unroll.proofs.spreads.spread.Given as goal

abbrev pub invariant-loop-next : goal.invariant-loop-next
invariant-loop-next l = Spreads l.design l.sets l.layer l.initial.found.keys l.found.keys l.next

abbrev pub decreases-loop-next : goal.decreases-loop-next
decreases-loop-next l = 2 ^ 63 - l.next
