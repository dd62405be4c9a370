use Rattle.std.proofs.Common.{◌++◌, sym, ap, ◌∙◌, append_assoc}
use Rattle.std.proofs.lemmas.Result.{err_from_is_err_and}
use Rattle.sdcv_base.specs.Cursors.{rest, place_of}
use Rattle.net_model.specs.declared.queries.Phase.TheVariants.{Base, Step}
use Rattle.cert_lines.specs.Texts.{many_text}
use Rattle.cert_lines.specs.Derivations.{derivation_text}
use Rattle.cert_text.proofs.ProofTexts.{bases_fault, step_fault}
use Rattle.cert_text.proofs.proofs_at.take_proof.Goals as goal

pub returns-in_err-base-clause-err : goal.returns-in_err-base-clause-err
returns-in_err-base-clause-err c =
    let p = err_from_is_err_and c.from_residual.result c.from_residual.ensures.1 in
    rw (p.1, p.2) (bases_fault c.args.depth (rest c.args.cursor.now) (place_of c.args.cursor.now) c.in_err-base.field-0.0 c.in_err-base.ensures.err)

pub returns-in_err-step-clause-err : goal.returns-in_err-step-clause-err
returns-in_err-step-clause-err c =
    let p = err_from_is_err_and c.from_residual-in_err-step.result c.from_residual-in_err-step.ensures.1 in
    rw (p.1, p.2)
    (step_fault c.args.depth c.in_ok-base.base c.in_ok-base.ensures.ok.0 (rest c.take_bases.new.cursor) (rest c.args.cursor.now)
    (place_of c.take_bases.new.cursor)
    (place_of c.args.cursor.now) c.in_ok-base.ensures.ok.1 c.in_ok-base.ensures.place c.in_err-step.field-0.0 c.in_err-step.ensures.err)

pub returns-clause-ok : goal.returns-clause-ok
returns-clause-ok c = (
  record { base = c.in_ok-base.ensures.ok.0; step = c.in_ok-step.ensures.ok.0 },
  c.in_ok-base.ensures.ok.1 ∙ ap (λ z. many_text (derivation_text Base) c.in_ok-base.base ++ z) c.in_ok-step.ensures.ok.1
      ∙ sym
      (append_assoc (many_text (derivation_text Base) c.in_ok-base.base) (derivation_text Step c.in_ok-step.step)
      (rest c.take_derivation.new.cursor)),
)
