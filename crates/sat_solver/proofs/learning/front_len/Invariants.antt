use Rattle.std.proofs.Common.{take}
use Rattle.sat_solver.specs.Learning.{IsFrontLen}
use Rattle.sat_solver.proofs.learning.front_len.Given as goal

-- the front is that of the literals so far
abbrev pub invariant-loop-l : goal.invariant-loop-l
invariant-loop-l l = IsFrontLen l.trail.lits (take l.l-index l.lits) l.unit l.len
