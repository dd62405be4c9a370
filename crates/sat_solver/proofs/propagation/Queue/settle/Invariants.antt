use Rattle.std.proofs.Common.{◌+◌, ◌-◌, ◌≤◌, length}
use Rattle.sat_solver.specs.Watches.{Settles}
use Rattle.sat_solver.proofs.propagation.Queue.settle.Given as goal

abbrev pub invariant-loop-self : goal.invariant-loop-self
invariant-loop-self l = record {
  settles : Settles l.clauses l.fn.trail l.fn.self l.trail l.self;
  looked : length l.clauses ≤ l.self.looked;
}

abbrev pub decreases-loop-self : goal.decreases-loop-self
decreases-loop-self l = l.trail.vars + 1 - l.self.done
