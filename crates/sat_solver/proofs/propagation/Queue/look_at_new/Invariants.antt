use Rattle.std.proofs.Common.{◌-◌, length}
use Rattle.sat_solver.specs.Watches.{Settles}
use Rattle.sat_solver.proofs.propagation.Queue.look_at_new.Given as goal

abbrev pub invariant-loop-self : goal.invariant-loop-self
invariant-loop-self l = Settles l.clauses l.fn.trail l.fn.self l.trail l.self

abbrev pub decreases-loop-self : goal.decreases-loop-self
decreases-loop-self l = length l.clauses - l.self.looked
