use Rattle.std.proofs.Common.{arith}
use Rattle.sat_solver.proofs.Watching.{Settles-refl, Settles-trans, Settles-extends, Settles-look}
use Rattle.sat_solver.proofs.propagation.Queue.look_at_new.Goals as goal

pub loop-self-init : goal.loop-self-init
loop-self-init c = Settles-refl c.args.clauses.now c.args.trail.now c.args.self.now c.len-len.ensures.paired c.requires.queued

pub returns-then-not-set_short-clause-settles : goal.returns-then-not-set_short-clause-settles
returns-then-not-set_short-clause-settles c =
    Settles-trans c.args.clauses.now c.args.trail.now c.args.self.now c.loop-self.trail c.loop-self.self c.set_short.new.trail c.loop-self.self
    c.loop-self.invariant
    (Settles-extends c.args.clauses.now c.loop-self.trail c.set_short.new.trail c.loop-self.self c.loop-self.invariant.queued c.set_short.ensures.extends)

pub loop-self-preserved : goal.loop-self-preserved
loop-self-preserved c =
    Settles-trans c.args.clauses.now c.args.trail.now c.args.self.now c.loop-self.trail c.loop-self.self c.set_short.new.trail _ c.loop-self.invariant
    (Settles-look c.args.clauses.now c.loop-self.trail c.set_short.new.trail c.loop-self.self c.loop-self.invariant.queued c.set_short.ensures.extends
    (omega arith) c.if-not-set_short.ensures.holds)
