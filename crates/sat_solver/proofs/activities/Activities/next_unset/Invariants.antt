use Rattle.std.proofs.Common.{length}
use Rattle.sat_solver.specs.Engines.{AreWaiting}
use Rattle.sat_solver.proofs.activities.Activities.next_unset.Given as goal

-- the unset variables wait
abbrev pub invariant-loop-var : goal.invariant-loop-var
invariant-loop-var l = AreWaiting l.trail.vars l.trail.lits l.self.waiting

abbrev pub decreases-loop-var : goal.decreases-loop-var
decreases-loop-var l = length l.self.waiting.inside
