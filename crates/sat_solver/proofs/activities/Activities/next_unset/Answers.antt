use Rattle.std.proofs.Common.{[], ◌∷◌, ◌++◌, sym, subst, inl, arith}
use Rattle.proof_log.proofs.Members.{is_set_first}
use Rattle.decision_heap.specs.Heaps.{Waiting}
use Rattle.sat_solver.specs.Engines.{AreWaiting}
use Rattle.sat_solver.proofs.Trailing.{in_left, in_right}
use Rattle.sat_solver.proofs.Deciding.{AreWaiting-taken, AreWaiting-none}
use Rattle.sat_solver.proofs.activities.Activities.next_unset.Goals as goal

pub returns-then-is_unset : goal.returns-then-is_unset
returns-then-is_unset c =
    let t = c.args.trail.now in
    let l = c.literal-l.result in
    let taken = rw c.in-Some.is at c.pop.ensures in (
      record {
        in_vars = (omega (arith, c.literal-l.ensures, taken.some), omega (arith, c.literal-l.ensures, taken.within, c.loop-var.invariant.vars));
        not_true = c.if-is_unset.ensures.0;
        not_false = c.if-is_unset.ensures.1;
      },
      AreWaiting-taken t.vars t.lits (t.lits ++ l ∷ []) c.loop-var.self.waiting c.pop.new.self c.in-Some.var l c.loop-var.invariant taken
          c.literal-l.ensures (in_left t.lits (l ∷ [])) (inl (in_right t.lits (l ∷ []) l (is_set_first l []))),
    )

pub returns : goal.returns
returns c =
    let t = c.args.trail.now in
    let none = rw c.in_default.is at c.pop.ensures in
    let W : Waiting → Type 0 = AreWaiting t.vars t.lits in
    (AreWaiting-none t.vars t.lits c.loop-var.self.waiting c.loop-var.invariant none.0, subst W (sym none.1) c.loop-var.invariant)
