use Rattle.std.proofs.Common.{ℕ, refl, subst}
use Rattle.std.proofs.lemmas.Result.{err_from_is_err_and}
use Rattle.net_model.specs.Queries.{clause_query}
use Rattle.net_model.specs.declared.queries.Phase.TheVariants.{Base, Step}
use Rattle.verdicts.specs.Logs.{RefutesQuery}
use Rattle.std.specs.Prelude.{length}
use Rattle.cert_check.proofs.Refuted.{refute_each, early_fault}
use Rattle.cert_check.proofs.inducting.prove_clause.Goals as goal

pub returns-in_err-refute_clause_bases-clause-fault : goal.returns-in_err-refute_clause_bases-clause-fault
returns-in_err-refute_clause_bases-clause-fault c =
    let d = c.args.design.now.design in
    let kept = c.args.kept.now in
    let proof = c.args.proof.now in
    let p = err_from_is_err_and c.from_residual.result c.from_residual.ensures.1 in
    rw (p.1, p.2)
    (λ told clause at.
    early_fault c.args.design.now.coding (λ (o : ℕ). clause_query d kept clause Base o)
    (clause_query d kept clause Step (length proof.base)) proof.base proof.step
    c.in_err-refute_clause_bases.field-0.0 (c.in_err-refute_clause_bases.ensures.fault told clause at))

pub returns-clause-proves : goal.returns-clause-proves
returns-clause-proves c ok clause at =
    let d = c.args.design.now.design in
    let kept = c.args.kept.now in
    let proof = c.args.proof.now in
    record {
      base = refute_each c.args.design.now.coding (λ (o : ℕ). clause_query d kept clause Base o) proof.base
          (c.in_ok-refute_clause_bases.ensures.refuted refl clause at);
      step =
          subst (λ (n : ℕ). RefutesQuery c.args.design.now.coding (clause_query d kept clause Step n) proof.step) c.len.ensures
          (c.refute_clause.ensures.refutes ok clause at);
    }
