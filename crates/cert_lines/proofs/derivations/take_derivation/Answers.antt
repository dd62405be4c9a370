use Rattle.std.proofs.lemmas.Result.{err_from_is_err_and}
use Rattle.sdcv_base.specs.Cursors.{rest, place_of}
use Rattle.cert_lines.proofs.DerivationTexts.{head_fault, body_fault, derivation_read}
use Rattle.cert_lines.proofs.derivations.take_derivation.Goals as goal

pub returns-in_err-count-clause-err : goal.returns-in_err-count-clause-err
returns-in_err-count-clause-err c =
    let p = err_from_is_err_and c.from_residual.result c.from_residual.ensures.1 in
    rw (p.1, p.2) (head_fault c.args.phase (rest c.args.cursor.now) (place_of c.args.cursor.now) c.in_err-count.field-0.0 c.in_err-count.ensures.err)

pub returns-in_err-steps-clause-err : goal.returns-in_err-steps-clause-err
returns-in_err-steps-clause-err c =
    let p = err_from_is_err_and c.from_residual-in_err-steps.result c.from_residual-in_err-steps.ensures.1 in
    rw (p.1, p.2)
    (body_fault c.args.phase c.in_ok-count.count c.in_ok-count.ensures.ok.0 (rest c.take_head.new.cursor) (rest c.args.cursor.now)
    (place_of c.take_head.new.cursor)
    (place_of c.args.cursor.now) c.in_ok-count.ensures.ok.1 c.in_ok-count.ensures.place c.in_err-steps.field-0.0 c.in_err-steps.ensures.err)

pub returns-clause-ok : goal.returns-clause-ok
returns-clause-ok c =
    let r =
    derivation_read c.args.phase c.in_ok-count.count c.in_ok-steps.steps (rest c.args.cursor.now) (rest c.take_head.new.cursor)
    (rest c.take_steps.new.cursor) c.in_ok-count.ensures.ok.0 c.in_ok-steps.ensures.ok.0 c.in_ok-count.ensures.ok.1 c.in_ok-steps.ensures.ok.1 in
    (r.fits, r.is)
