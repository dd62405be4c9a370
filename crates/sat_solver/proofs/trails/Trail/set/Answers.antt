use Rattle.sat_solver.proofs.Trailing.{IsTrail-set}
use Rattle.sat_solver.proofs.trails.Trail.set.Goals as goal

pub invariant_of-self : goal.invariant_of-self
invariant_of-self c =
    rw (c.set.ensures.set, c.push_reserved.ensures.items, c.push_reserved.ensures.capacity, c.var.ensures.value, c.len.ensures.value)
    (IsTrail-set c.self.inside.assigned.vars _ c.self.inside.assigned.lits c.self.inside.reasons.items c.self.inside.places.items c.args.l
    c.args.reason c.self.invariant
    (rw (← c.self.view_is) at c.requires.in_vars) (rw (← c.self.view_is) at c.requires.not_true) (rw (← c.self.view_is) at c.requires.not_false))
