use Rattle.std.proofs.Common.{◌≡◌, ◌<◌, length, arith, ◌∙◌, sym}
use Rattle.std.proofs.lemmas.Bool.Decides.{nat_tests}
use Rattle.cert_words.proofs.Literals.{zero_front, zero_may, zero_itself, same_bytes, bytes_same}
use Rattle.cert_words.proofs.rows.may_be_zero.Goals as goal

pub returns-then-is_empty : goal.returns-then-is_empty
returns-then-is_empty c =
    let none : length c.args.word.now ≡ 0 = grind (arith, nat_tests) in
    (λ t. zero_may c.args.word.now none, λ z. c.if-is_empty.true)

pub returns-else-is_empty : goal.returns-else-is_empty
returns-else-is_empty c =
    let some : 0 < length c.args.word.now = grind (arith, nat_tests) in (
      λ t. zero_itself c.args.word.now (same_bytes c.args.word.now c.as_slice.result.now (sym c.eq.ensures ∙ t) ∙ c.as_slice.ensures),
      λ z. c.eq.ensures ∙ bytes_same c.args.word.now c.as_slice.result.now (zero_front c.args.word.now z.0 z.1 some ∙ sym c.as_slice.ensures),
    )
