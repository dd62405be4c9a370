use Rattle.std.proofs.Common.{ℕ, List, [], sym, subst, arith}
use Rattle.std.specs.List.{All}
use Rattle.proof_log.specs.Clauses.{IsNormal}
use Rattle.sat_solver.specs.Searches.{AllInVars}
use Rattle.sat_solver.specs.Watches.{IsQueued}
use Rattle.sat_solver.proofs.Queueing.{IsEngine-start}
use Rattle.sat_solver.proofs.engines.Engine.load.Goals as goal

pub invariant_of-result : goal.invariant_of-result
invariant_of-result c =
    let vars = c.args.formula.now.vars in
    let same = c.in_ok-clauses.ensures in
    let V : List (List ℕ) → Type 0 = AllInVars vars in
    let N : List (List ℕ) → Type 0 = All IsNormal in
    let Q : List (List ℕ) → Type 0 = λ cs. IsQueued cs (record { vars = vars; lits = []; reasons = [] }) c.in_ok-queue.queue in
    rw (c.in_ok-trail.ensures, c.in_ok-starts.ensures.items, c.in_ok-walks.ensures.items) (
      IsEngine-start c.in_ok-clauses.clauses vars c.in_ok-queue.queue (subst V (sym same) c.requires.in_vars)
          (subst N (sym same) c.requires.normal) (subst Q (sym same) c.in_ok-queue.ensures),
      omega (arith, c.in_ok-starts.ensures.capacity),
      omega (arith, c.in_ok-walks.ensures.capacity),
      c.in_ok-activities.ensures,
      omega (arith, c.in_ok-marks.ensures),
    )
