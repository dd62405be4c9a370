use Rattle.std.proofs.Common.{arith}
use Rattle.sat_solver.proofs.Queueing.{IsEngine-settle}
use Rattle.sat_solver.proofs.Deciding.{AreWaiting-extends}
use Rattle.sat_solver.proofs.Settling.{Propagates-from_extends}
use Rattle.sat_solver.proofs.engines.Engine.propagate.Goals as goal

pub settle-conflict-requires-clause-in_vars : goal.settle-conflict-requires-clause-in_vars
settle-conflict-requires-clause-in_vars c = c.self.invariant.0.search.in_vars

pub settle-conflict-requires-clause-normal : goal.settle-conflict-requires-clause-normal
settle-conflict-requires-clause-normal c = c.self.invariant.0.normal

pub settle-conflict-requires-clause-queued : goal.settle-conflict-requires-clause-queued
settle-conflict-requires-clause-queued c = c.self.invariant.0.queued

pub invariant_of-self : goal.invariant_of-self
invariant_of-self c =
    let e = c.self.inside in
    let s = c.settle-conflict.ensures in (
      IsEngine-settle e.clauses e.trail _ e.starts.items e.walks.items e.queue _ c.self.invariant.0 s.settles,
      omega (arith, s.settles.extends.vars, c.self.invariant.1),
      omega (arith, s.settles.extends.vars, c.self.invariant.2),
      AreWaiting-extends e.clauses e.trail _ e.activities.waiting s.settles.extends c.self.invariant.3,
      omega (arith, s.settles.extends.vars, c.self.invariant.4),
    )

pub returns-clause-propagates : goal.returns-clause-propagates
returns-clause-propagates c =
    let s = c.settle-conflict.ensures in
    rw (← c.self.view_is) (Propagates-from_extends c.self.inside.clauses c.self.inside.trail _ s.settles.extends)
