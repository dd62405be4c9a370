use Rattle.decision_heap.specs.Heaps.{IsSame}
use Rattle.sat_solver.proofs.activities.Activities.raise_hints.Given as goal

-- the same variables wait
abbrev pub invariant-loop-hint : goal.invariant-loop-hint
invariant-loop-hint l = IsSame l.fn.self.waiting l.self.waiting
