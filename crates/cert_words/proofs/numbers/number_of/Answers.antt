use Rattle.std.proofs.Common.{sym, ◌∙◌}
use Rattle.cert_words.proofs.Literals.{leads_none, number_is}
use Rattle.cert_words.proofs.numbers.number_of.Goals as goal

pub returns-then-has_leading_zero : goal.returns-then-has_leading_zero
returns-then-has_leading_zero c =
    λ n within e. leads_none c.args.word.now (sym c.has_leading_zero.ensures ∙ c.if-has_leading_zero.true) n c.args.most c.ranges.most.fits within e

pub returns : goal.returns
returns c =
    number_is c.args.word.now c.args.most c.read_decimal.result c.ranges.most.fits
    (sym c.has_leading_zero.ensures ∙ c.if-has_leading_zero.false) c.read_decimal.ensures.some c.read_decimal.ensures.value
