use Rattle.std.proofs.Common.{◌∙◌, ap}
use Rattle.std.proofs.lemmas.Bool.{true≢false}
use Rattle.proof_log.specs.Clauses.{is_set}
use Rattle.proof_log.proofs.Members.{normal_consistent}
use Rattle.proof_log.proofs.clauses.Clause.normal.Goals as goal

pub returns-clause-none : goal.returns-clause-none
returns-clause-none c =
    let n = c.if-not-normalize.ensures.normal in (
      λ e. absurd (true≢false e),
      λ w. absurd (normal_consistent n.0 c.args.lits.now n.1 (λ l. n.2 l ∙ ap (λ xs. is_set xs l) c.in_ok-out.ensures.items) w),
    )
