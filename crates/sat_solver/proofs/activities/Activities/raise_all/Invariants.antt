use Rattle.decision_heap.specs.Heaps.{IsSame}
use Rattle.sat_solver.proofs.activities.Activities.raise_all.Given as goal

-- the same variables wait
abbrev pub invariant-loop-l : goal.invariant-loop-l
invariant-loop-l l = IsSame l.fn.self.waiting l.self.waiting
