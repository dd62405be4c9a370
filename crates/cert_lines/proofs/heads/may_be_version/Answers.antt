use Rattle.std.proofs.Common.{◌≡◌, ◌<◌, length, arith}
use Rattle.std.proofs.lemmas.Bool.Decides.{nat_tests}
use Rattle.cert_lines.proofs.PartLemmas.{empty_version, option_version}
use Rattle.cert_lines.proofs.heads.may_be_version.Goals as goal

pub returns-then-is_empty : goal.returns-then-is_empty
returns-then-is_empty c =
    let none : length c.args.word.now ≡ 0 = grind (arith, nat_tests) in
    (λ t. empty_version c.args.word.now none, λ m. c.if-is_empty.true)

pub returns-else-is_empty : goal.returns-else-is_empty
returns-else-is_empty c =
    let some : 0 < length c.args.word.now = grind (arith, nat_tests) in
    rw c.is_some.ensures (option_version c.args.word.now c.version_of.result some c.version_of.ensures)
