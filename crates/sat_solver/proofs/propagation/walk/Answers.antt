use Rattle.std.proofs.Common.{sym, subst, arith}
use Rattle.proof_log.specs.Literals.{negated}
use Rattle.watch_lists.specs.Watchings.{Watching}
use Rattle.sat_solver.specs.Trails.{Trailed}
use Rattle.sat_solver.specs.Watches.{AreWalked}
use Rattle.sat_solver.proofs.AtConflict.{in_vars_back}
use Rattle.sat_solver.proofs.Watching.{Walks-refl, Walks-trans, Walks-drained}
use Rattle.sat_solver.proofs.propagation.walk.Goals as goal

pub loop-place-init : goal.loop-place-init
loop-place-init c = record {
  walks = Walks-refl c.args.clauses.now c.args.falsified c.args.trail.now c.args.watches.now c.len-len.ensures.paired c.requires;
  walked = λ done few k. k;
}

pub returns-in-End-clause-walked : goal.returns-in-End-clause-walked
returns-in-End-clause-walked c = λ done few k.
    let e = c.in-End.ensures in
    let T : Trailed → Type 0 = λ x. AreWalked done x c.loop-place.watches in
    let W : Watching → Type 0 = λ x. AreWalked done c.visit_one.new.trail x in
    subst W (sym e.2) (subst T (sym e.1) (c.loop-place.invariant.walked done few k))

pub loop-place-preserved : goal.loop-place-preserved
loop-place-preserved c =
    let e = c.in-Next.ensures in
    record {
      walks = Walks-trans c.args.clauses.now c.args.falsified c.args.trail.now c.args.watches.now c.loop-place.trail c.loop-place.watches
          c.visit_one.new.trail c.visit_one.new.watches c.loop-place.invariant.walks e.0;
      walked = λ done few k. e.2 done (omega (arith, c.loop-place.invariant.walks.extends.longer)) (c.loop-place.invariant.walked done few k);
    }

pub put_back-requires-clause-low : goal.put_back-requires-clause-low
put_back-requires-clause-low c =
    let v = in_vars_back c.args.trail.now.vars c.args.falsified (c.lits-lits.ensures.in_vars (negated c.args.falsified) c.requires.falsified) in
    let e = c.in-Conflict.ensures.0 in
    omega (arith, v.1, e.can.limit, e.extends.vars, c.loop-place.invariant.walks.extends.vars)

pub put_back-requires-clause-waits : goal.put_back-requires-clause-waits
put_back-requires-clause-waits c = c.in-Conflict.ensures.0.can.waits

pub returns-in-Conflict-clause-walks : goal.returns-in-Conflict-clause-walks
returns-in-Conflict-clause-walks c =
    Walks-drained c.args.clauses.now c.args.falsified c.args.trail.now c.args.watches.now c.visit_one.new.trail c.visit_one.new.watches c.put_back.new.watches
    (Walks-trans c.args.clauses.now c.args.falsified c.args.trail.now c.args.watches.now c.loop-place.trail c.loop-place.watches c.visit_one.new.trail
    c.visit_one.new.watches c.loop-place.invariant.walks c.in-Conflict.ensures.0)
    c.put_back.ensures
