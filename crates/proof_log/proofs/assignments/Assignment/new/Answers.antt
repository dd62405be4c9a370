use Rattle.proof_log.proofs.Assigning.{IsAssignment-new}
use Rattle.proof_log.proofs.assignments.Assignment.new.Goals as goal

pub invariant_of-result : goal.invariant_of-result
invariant_of-result c = rw c.in_ok-trail.ensures.items (IsAssignment-new c.args.vars _ _ c.requires
    (c.in_ok-marks.ensures.items_if_clones_equal (λ y e. e)) c.in_ok-trail.ensures.capacity)
