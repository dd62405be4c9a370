use Rattle.std.proofs.Common.{arith}
use Rattle.sat_solver.proofs.Stamping.{unstamped, IsMarks-set}
use Rattle.sat_solver.proofs.marks.Marks.unmark.Goals as goal

pub invariant_of-self : goal.invariant_of-self
invariant_of-self c =
    IsMarks-set c.self.inside.stamps.items c.self.inside.present c.args.var 0 c.self.invariant (rw (← c.self.view_is) at c.requires) (omega arith)

pub returns-clause-marked : goal.returns-clause-marked
returns-clause-marked c = λ v.
    rw (← c.self.view_is)
    (unstamped c.self.inside.stamps.items c.self.inside.present c.args.var v c.self.invariant.some (rw (← c.self.view_is) at c.requires))
