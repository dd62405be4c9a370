use Rattle.std.proofs.Common.{take}
use Rattle.sat_solver.specs.Learning.{OthersFalse}
use Rattle.sat_solver.proofs.learning.second_watch.Given as goal

-- the literals so far are false but for the unit
abbrev pub invariant-loop-l : goal.invariant-loop-l
invariant-loop-l l = OthersFalse (take l.floor l.trail.lits) (take l.l-index l.lits) l.learnt.unit
