use Rattle.std.proofs.Common.{◌∙◌, ◌≡◌, false, true, refl}
use Rattle.sdcv_base.specs.Decimals.{IsDecimal}
use Rattle.sdcv_words.proofs.Decimals.{number_low, number_none, number_some}
use Rattle.sdcv_words.proofs.numbers.number_in.Goals as goal

pub returns-in_err-value : goal.returns-in_err-value
returns-in_err-value c =
    let text = c.as_bytes.ensures.value in
    let none : IsDecimal c.as_bytes.result.now c.args.most → ⊥ = λ d. let bad : false ≡ true = c.in_err-value.ensures.some.1 d in cc in
    c.from_residual.ensures ∙ number_none c.args.least c.args.most c.args.text.now (rw text at none)

pub returns-then-least-value : goal.returns-then-least-value
returns-then-least-value c =
    let text = c.as_bytes.ensures.value in
    number_some c.args.least c.args.most c.args.text.now c.in_ok-value.value
    (rw text at (c.in_ok-value.ensures.some.0 refl)) (rw text at c.in_ok-value.ensures.value)
    c.if-least-value.true

pub returns-else-least-value : goal.returns-else-least-value
returns-else-least-value c =
    let text = c.as_bytes.ensures.value in
    number_low c.args.least c.args.most c.args.text.now c.in_ok-value.value
    (rw text at (c.in_ok-value.ensures.some.0 refl)) (rw text at c.in_ok-value.ensures.value)
    c.if-least-value.false
