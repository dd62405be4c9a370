use Rattle.std.proofs.Common.{ℕ, ◌<◌, take, slice_index}
use Rattle.sat_solver.specs.Learning.{OtherOpen}
use Rattle.sat_solver.proofs.learning.asserting_level.Given as goal

abbrev pub invariant-loop-level : goal.invariant-loop-level
invariant-loop-level l = (k : ℕ) → k < l.level → OtherOpen (take (slice_index l.fn.starts k) l.fn.trail.lits) l.fn.lits l.fn.unit
