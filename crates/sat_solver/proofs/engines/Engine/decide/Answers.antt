use Rattle.std.proofs.Common.{arith, ap, length}
use Rattle.std.proofs.lemmas.List.{length_push}
use Rattle.sat_solver.proofs.Queueing.{IsEngine-decide, levels_few}
use Rattle.sat_solver.proofs.engines.Engine.decide.Goals as goal

pub push_reserved-requires : goal.push_reserved-requires
push_reserved-requires c =
    let e = c.self.inside in
    omega (
      arith,
      levels_few e.clauses e.trail e.starts.items c.self.invariant.0.search,
      c.self.invariant.1,
      e.starts.ok.0,
      c.set.ensures.few,
      c.set.ensures.vars,
      ap length c.set.ensures.lits,
      length_push e.trail.lits c.in_ok-l.l,
    )

pub push_reserved-requires-2 : goal.push_reserved-requires-2
push_reserved-requires-2 c =
    let e = c.self.inside in
    omega (
      arith,
      levels_few e.clauses e.trail e.starts.items c.self.invariant.0.search,
      c.self.invariant.0.levels,
      c.self.invariant.2,
      e.walks.ok.0,
      c.set.ensures.few,
      c.set.ensures.vars,
      ap length c.set.ensures.lits,
      length_push e.trail.lits c.in_ok-l.l,
    )

pub invariant_of-self-2 : goal.invariant_of-self-2
invariant_of-self-2 c =
    let e = c.self.inside in
    rw (c.push_reserved.ensures.items, c.push_reserved-2.ensures.items, c.len-start.ensures.value) (
      IsEngine-decide e.clauses e.trail c.set.new.self e.starts.items e.walks.items e.queue c.in_ok-l.l 0 c.self.invariant.0
          (rw (← c.self.view_is) at c.requires) c.set.ensures.vars c.set.ensures.lits c.set.ensures.reasons,
      omega (arith, c.set.ensures.vars, c.push_reserved.ensures.capacity, c.self.invariant.1),
      omega (arith, c.set.ensures.vars, c.push_reserved-2.ensures.capacity, c.self.invariant.2),
      rw (c.set.ensures.vars, c.set.ensures.lits) c.in_ok-l.ensures.1,
      omega (arith, c.set.ensures.vars, c.self.invariant.4),
    )
