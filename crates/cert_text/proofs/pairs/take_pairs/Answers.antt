use Rattle.std.proofs.lemmas.Result.{err_from_is_err_and}
use Rattle.sdcv_base.specs.Cursors.{rest, place_of}
use Rattle.cert_text.proofs.PairTexts.{pairs_fault}
use Rattle.cert_text.proofs.pairs.take_pairs.Goals as goal

pub returns-in_err-pair-clause-err : goal.returns-in_err-pair-clause-err
returns-in_err-pair-clause-err c =
    let p = err_from_is_err_and c.from_residual.result c.from_residual.ensures.1 in
    let i = c.loop-pairs.invariant in
    rw (p.1, p.2)
    (pairs_fault c.loop-pairs.pairs i.fits (rest c.loop-pairs.cursor) (rest c.args.cursor.now) (place_of c.loop-pairs.cursor)
    (place_of c.args.cursor.now) i.is i.left c.in_err-pair.field-0.0 c.in_err-pair.ensures.err)
