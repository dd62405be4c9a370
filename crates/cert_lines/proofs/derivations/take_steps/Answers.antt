use Rattle.std.proofs.Common.{arith, ◌<◌, length}
use Rattle.std.proofs.lemmas.Result.{err_from_is_err_and}
use Rattle.sdcv_base.specs.Cursors.{rest, place_of}
use Rattle.cert_lines.proofs.DerivationTexts.{steps_fault}
use Rattle.cert_lines.proofs.derivations.take_steps.Goals as goal

pub returns-in_err-take_step-clause-err : goal.returns-in_err-take_step-clause-err
returns-in_err-take_step-clause-err c =
    let p = err_from_is_err_and c.from_residual.result c.from_residual.ensures.1 in
    let i = c.loop.invariant in
    let count = i.count in
    let test = c.loop-test.true in
    let less : length c.loop.steps < c.args.count = omega arith in
    rw (p.1, p.2)
    (steps_fault c.args.count c.loop.steps i.fits less (rest c.loop.cursor) (rest c.args.cursor.now) (place_of c.loop.cursor)
    (place_of c.args.cursor.now) i.is i.left c.in_err-take_step.field-0.0 c.in_err-take_step.ensures.err)
