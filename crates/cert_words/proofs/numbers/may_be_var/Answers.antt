use Rattle.std.proofs.Common.{◌≡◌, ◌<◌, arith, sym, ap, length, ◌∙◌}
use Rattle.std.specs.Fmt.{decimal}
use Rattle.std.proofs.lemmas.Bool.Decides.{nat_tests}
use Rattle.cert_words.proofs.Literals.{empty_var, none_var, zero_begins_none}
use Rattle.cert_words.proofs.numbers.may_be_var.Goals as goal

pub returns-then-is_empty : goal.returns-then-is_empty
returns-then-is_empty c =
    let test = c.is_empty.ensures ∙ sym c.is_empty.ensures ∙ c.if-is_empty.true in
    let none : length c.args.digits.now ≡ 0 = grind (arith, nat_tests) in
    rw c.from.ensures (empty_var c.args.above c.args.digits.now none)

pub returns-in-None : goal.returns-in-None
returns-in-None c =
    let some : 0 < length c.args.digits.now = grind (arith, nat_tests) in
    let none = rw c.in-None.is at c.number_of.ensures in
    (λ t. cc, λ b. absurd (none_var c.args.above c.args.digits.now some none b))

pub returns-else-number-gt0 : goal.returns-else-number-gt0
returns-else-number-gt0 c =
    let is = rw c.in-Some.is at c.number_of.ensures in
    let le = c.if-number-gt0.false in
    let zero : c.in-Some.number ≡ 0 = omega arith in
    (λ t. absurd (grind (arith, nat_tests)), λ b. absurd (zero_begins_none c.args.above c.args.digits.now (is.0 ∙ ap decimal zero) b))
