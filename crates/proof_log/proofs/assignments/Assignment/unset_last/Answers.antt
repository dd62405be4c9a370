use Rattle.std.proofs.Common.{arith, ◌-◌, ◌<◌, length}
use Rattle.std.proofs.lemmas.List.{get_or_read}
use Rattle.proof_log.proofs.Assigning.{IsAssignment-unset, mark_within}
use Rattle.proof_log.proofs.assignments.Assignment.unset_last.Goals as goal

pub index_mut-requires : goal.index_mut-requires
index_mut-requires c =
    let some = rw (← c.self.view_is) at c.requires in
    let within : c.len-last.result - 1 < length c.self.inside.trail.items = omega (arith, c.self.inside.trail.ok.0) in
    let m = mark_within _ _ c.self.inside.marks.items c.self.inside.trail.items (c.len-last.result - 1) c.index.result.now c.self.invariant within
    (get_or_read c.self.inside.trail.items (c.len-last.result - 1) c.index.result.now within c.index.ensures 0) in
    omega (arith, m, c.self.inside.marks.ok.0)

pub invariant_of-self : goal.invariant_of-self
invariant_of-self c =
    let some = rw (← c.self.view_is) at c.requires in
    let within : c.len-last.result - 1 < length c.self.inside.trail.items = omega (arith, c.self.inside.trail.ok.0) in
    rw (c.truncate.ensures.items, c.truncate.ensures.capacity, c.index-2.ensures.value)
    (IsAssignment-unset _ _ c.self.inside.marks.items c.self.inside.trail.items (c.len-last.result - 1) c.index.result.now c.self.invariant
    (omega (arith, c.self.inside.trail.ok.0))
    (get_or_read c.self.inside.trail.items (c.len-last.result - 1) c.index.result.now within c.index.ensures 0))
