use Rattle.std.proofs.Common.{arith}
use Rattle.proof_log.proofs.Assigning.{IsAssignment-set, room_left, few_set}
use Rattle.proof_log.proofs.assignments.Assignment.set.Goals as goal

pub push_reserved-requires : goal.push_reserved-requires
push_reserved-requires c =
    let room = room_left _ _ c.self.inside.marks.items _ c.args.l c.self.invariant
    (rw (← c.self.view_is) at c.requires.in_vars) (rw (← c.self.view_is) at c.requires.not_true) (rw (← c.self.view_is) at c.requires.not_false) in
    omega (arith, room, c.self.inside.trail.ok.0, c.self.invariant.roomy)

pub invariant_of-self : goal.invariant_of-self
invariant_of-self c =
    rw (c.push_reserved.ensures.items, c.push_reserved.ensures.capacity, c.index.ensures.value)
    (IsAssignment-set _ _ c.self.inside.marks.items _ c.args.l c.self.invariant
    (rw (← c.self.view_is) at c.requires.in_vars) (rw (← c.self.view_is) at c.requires.not_true) (rw (← c.self.view_is) at c.requires.not_false))

pub returns-clause-few : goal.returns-clause-few
returns-clause-few c = few_set _ _ _ c.push_reserved.new.self.items (invariant_of-self c)
