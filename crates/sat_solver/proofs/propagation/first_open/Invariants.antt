use Rattle.std.proofs.Common.{take}
use Rattle.sat_solver.specs.Learning.{OthersFalse}
use Rattle.sat_solver.proofs.propagation.first_open.Given as goal

-- the literals so far are false but for the other one
abbrev pub invariant-loop-at : goal.invariant-loop-at
invariant-loop-at l = OthersFalse l.trail.lits (take l.at l.lits) l.other
