use Rattle.std.proofs.Common.{ℕ, List, [], get_or, ap, sym, subst, ◌∙◌, arith}
use Rattle.std.proofs.lemmas.List.{get_or_default}
use Rattle.proof_log.specs.Literals.{InVars}
use Rattle.proof_log.specs.Clauses.{is_set}
use Rattle.proof_log.proofs.Members.{member_from_All}
use Rattle.sat_solver.specs.Watches.{IsAdded}
use Rattle.sat_solver.proofs.Queueing.{AreWatches-added}
use Rattle.sat_solver.proofs.engines.queue_of.Goals as goal

pub add_clause-requires-clause-low : goal.add_clause-requires-clause-low
add_clause-requires-clause-low c = λ l m.
    let low = c.loop-place-test.true in
    let inside = c.requires.in_vars c.loop-place.place [] (omega (arith, c.len-place-end.ensures.value)) in
    let v = member_from_All (InVars c.args.vars) (get_or c.args.clauses.now c.loop-place.place []) l inside (ap (λ xs. is_set xs l) (sym c.clause.ensures) ∙ m) in
    omega (arith, v.1, c.loop-place.invariant.limit)

pub loop-place-preserved : goal.loop-place-preserved
loop-place-preserved c =
    let i = c.loop-place.invariant in
    let A : List ℕ → Type 0 = λ xs. IsAdded c.loop-place.place xs c.loop-place.queue c.add_clause.new.self in
    let a = subst A c.clause.ensures c.in_ok-add_clause.ensures in
    record {
      watches = AreWatches-added c.args.vars c.args.clauses.now (get_or c.args.clauses.now c.loop-place.place []) c.loop-place.place c.loop-place.queue
          c.add_clause.new.self (omega (arith, c.len-place-end.ensures.value)) (get_or_default c.args.clauses.now c.loop-place.place [] (get_or c.args.clauses.now c.loop-place.place []) (omega (arith, c.len-place-end.ensures.value))) c.requires.normal c.requires.in_vars i.watches a;
      limit = a.limit ∙ i.limit;
      waiting = a.waiting ∙ i.waiting;
      done = a.done ∙ i.done;
      looked = a.looked ∙ i.looked;
    }
