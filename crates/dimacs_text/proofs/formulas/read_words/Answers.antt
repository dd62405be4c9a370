use Rattle.std.proofs.Common.{◌++◌, ◌<◌, map, take, length, arith}
use Rattle.std.proofs.lemmas.Result.{err_from_is_err_and}
use Rattle.dimacs_text.specs.Tokens.{placed_words}
use Rattle.dimacs_text.proofs.Placing.{now_of, stop_words}
use Rattle.dimacs_text.proofs.formulas.read_words.Goals as goal

pub returns-in_err-take-clause-err : goal.returns-in_err-take-clause-err
returns-in_err-take-clause-err c placed so =
    let words = c.args.words.now in
    let k = c.loop-place.place in
    let low : k < length words = omega (arith, c.loop-place-test.true, c.loop-place.auto) in
    let before = placed ++ placed_words c.args.at (map now_of (take k words)) in
    let p = err_from_is_err_and c.from_residual.result c.from_residual.ensures.1 in
    rw (p.1, p.2) (stop_words c.args.at words k _ placed c.in_err-take.field-0.0 c.number-token.result low c.number-token.ensures.is
    (c.in_err-take.ensures.err before (c.loop-place.invariant placed so)))
