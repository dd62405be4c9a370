use Rattle.std.proofs.Common.{◌≡◌, ◌<◌, length, arith}
use Rattle.std.proofs.lemmas.Bool.Decides.{nat_tests}
use Rattle.cert_words.proofs.Literals.{empty_hint, option_hint}
use Rattle.cert_words.proofs.rows.may_be_hint.Goals as goal

pub returns-then-is_empty : goal.returns-then-is_empty
returns-then-is_empty c =
    let none : length c.args.word.now ≡ 0 = grind (arith, nat_tests) in
    (λ t. empty_hint c.args.word.now none, λ m. c.if-is_empty.true)

pub returns-else-is_empty : goal.returns-else-is_empty
returns-else-is_empty c =
    let some : 0 < length c.args.word.now = grind (arith, nat_tests) in
    rw c.is_some.ensures (option_hint c.args.word.now c.number_of.result some c.number_of.ensures)
