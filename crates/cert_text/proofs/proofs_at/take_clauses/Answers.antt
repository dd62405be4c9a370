use Rattle.std.proofs.Common.{arith, ◌<◌, length}
use Rattle.std.proofs.lemmas.Result.{err_from_is_err_and}
use Rattle.sdcv_base.specs.Cursors.{rest, place_of}
use Rattle.cert_text.proofs.ProofTexts.{clause_fault}
use Rattle.cert_text.proofs.proofs_at.take_clauses.Goals as goal

pub returns-in_err-take_kept-clause-err : goal.returns-in_err-take_kept-clause-err
returns-in_err-take_kept-clause-err c =
    let p = err_from_is_err_and c.from_residual.result c.from_residual.ensures.1 in
    let i = c.loop.invariant in
    let count = i.count in
    let test = c.loop-test.true in
    let less : length c.loop.clauses < c.args.count = omega arith in
    rw (p.1, p.2)
    (clause_fault c.args.long c.args.count c.loop.clauses i.fits less (rest c.loop.cursor) (rest c.args.cursor.now) (place_of c.loop.cursor)
    (place_of c.args.cursor.now) i.is i.left c.in_err-take_kept.field-0.0 c.in_err-take_kept.ensures.err)
