use Rattle.std.proofs.Common.{arith}
use Rattle.sat_solver.proofs.Watching.{Settles-trans, quiet_all}
use Rattle.sat_solver.proofs.propagation.Queue.settle.Goals as goal

pub returns-in-Some-walk_next-clause-settles : goal.returns-in-Some-walk_next-clause-settles
returns-in-Some-walk_next-clause-settles c =
    Settles-trans c.args.clauses.now c.args.trail.now c.args.self.now c.loop-self.trail c.loop-self.self c.walk_next.new.trail c.walk_next.new.self
    c.loop-self.invariant.settles c.walk_next.ensures.settles

pub loop-self-preserved : goal.loop-self-preserved
loop-self-preserved c = record {
  settles = Settles-trans c.args.clauses.now c.args.trail.now c.args.self.now c.loop-self.trail c.loop-self.self c.walk_next.new.trail
      c.walk_next.new.self c.loop-self.invariant.settles c.walk_next.ensures.settles;
  looked = omega (arith, c.loop-self.invariant.looked, c.walk_next.ensures.looked);
}

pub returns-clause-settled : goal.returns-clause-settled
returns-clause-settled c =
    let s = c.loop-self.invariant.settles.queued in
    quiet_all c.args.clauses.now c.loop-self.self.watches.literals c.loop-self.trail.lits c.loop-self.self.done c.loop-self.self.looked
    c.lits-lits.ensures.distinct s.watches s.walked (omega arith) s.looked c.loop-self.invariant.looked
