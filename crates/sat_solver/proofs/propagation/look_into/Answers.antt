use Rattle.std.proofs.Common.{◌≡◌, ◌∙◌, ap, get_or, sym}
use Rattle.std.proofs.lemmas.List.{get_or_default}
use Rattle.proof_log.specs.Literals.{negated}
use Rattle.proof_log.specs.Clauses.{is_set}
use Rattle.proof_log.proofs.Members.{is_set-at}
use Rattle.sat_solver.specs.Watches.{clause_at}
use Rattle.sat_solver.proofs.propagation.look_into.Goals as goal

pub returns-in-Some : goal.returns-in-Some
returns-in-Some c =
    let clauses = c.args.clauses.now in
    let clause = c.clause-clause.result.now in
    let at = c.in-Some.at in
    let here = c.in-Some.ensures in
    let clause_is : clause ≡ clause_at clauses c.args.place =
    c.clause-clause.ensures in
    let q_is : c.index-clause-at.result ≡ get_or clause at 0 = c.index-clause-at.is ∙ get_or_default clause at c.index-clause-at.result 0 here.0 in (
      ap (λ xs. is_set xs c.index-clause-at.result) (sym clause_is) ∙ (ap (is_set clause) q_is ∙ is_set-at clause at here.0),
      λ e. here.1 (sym q_is ∙ e),
      ap (λ x. is_set c.args.trail.now.lits (negated x)) q_is ∙ here.2,
    )
