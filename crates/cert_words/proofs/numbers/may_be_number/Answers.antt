use Rattle.std.proofs.Common.{◌≡◌, ◌<◌, length, arith}
use Rattle.std.proofs.lemmas.Bool.Decides.{nat_tests}
use Rattle.cert_words.proofs.Literals.{empty_number, option_number}
use Rattle.cert_words.proofs.numbers.may_be_number.Goals as goal

pub returns-then-is_empty : goal.returns-then-is_empty
returns-then-is_empty c =
    let none : length c.args.word.now ≡ 0 = grind (arith, nat_tests) in
    (λ t. empty_number c.args.word.now c.args.most none, λ m. c.if-is_empty.true)

pub returns-else-is_empty : goal.returns-else-is_empty
returns-else-is_empty c =
    let some : 0 < length c.args.word.now = grind (arith, nat_tests) in
    rw c.is_some.ensures (option_number c.args.word.now c.args.most c.number_of.result c.ranges.most.fits some c.number_of.ensures)
