use Rattle.std.proofs.Common.{◌+◌, ◌-◌, ◌*◌, length}
use Rattle.sat_solver.specs.Watches.{HasMore}
use Rattle.sat_solver.proofs.propagation.Queue.provide.Given as goal

abbrev pub invariant-loop-self : goal.invariant-loop-self
invariant-loop-self l = HasMore l.fn.self l.self

abbrev pub decreases-loop-self : goal.decreases-loop-self
decreases-loop-self l = 2 * l.place + 2 - length l.self.watches.literals
