use Rattle.std.proofs.Common.{ℕ, ◌≤◌, length}
use Rattle.sat_solver.specs.Watches.{Walks, AreWalked}
use Rattle.sat_solver.proofs.propagation.walk.Given as goal

abbrev pub invariant-loop-place : goal.invariant-loop-place
invariant-loop-place l = record {
  walks : Walks l.clauses l.falsified l.fn.trail l.fn.watches l.trail l.watches;
  walked : (done : ℕ) → done ≤ length l.fn.trail.lits → AreWalked done l.fn.trail l.fn.watches → AreWalked done l.trail l.watches;
}

abbrev pub decreases-loop-place : goal.decreases-loop-place
decreases-loop-place l = length l.watches.waiting
