use Rattle.sat_solver.proofs.Trailing.{IsTrail-take}
use Rattle.sat_solver.proofs.trails.Trail.truncate.Goals as goal

pub invariant_of-self : goal.invariant_of-self
invariant_of-self c =
    rw (c.truncate.ensures, c.truncate-2.ensures.items, c.truncate-2.ensures.capacity)
    (IsTrail-take c.self.inside.assigned.vars _ c.self.inside.assigned.lits c.self.inside.reasons.items c.self.inside.places.items c.args.len c.self.invariant)
