use Rattle.std.proofs.Common.{◌∙◌, ◌≡◌, ◌-◌, ◌^◌, false, true, refl}
use Rattle.sdcv_base.specs.Decimals.{IsDecimal}
use Rattle.refusal_words.proofs.Decimals.{number_none, number_some}
use Rattle.refusal_words.proofs.numbers.number_in.Goals as goal

pub returns-in_err-value : goal.returns-in_err-value
returns-in_err-value c =
    let none : IsDecimal c.args.word.now (2 ^ 64 - 1) → ⊥ = λ d. let bad : false ≡ true = c.in_err-value.ensures.some.1 d in cc in
    c.from_residual.ensures ∙ number_none c.args.word.now none

pub returns : goal.returns
returns c = number_some c.args.word.now c.in_ok-value.value (c.in_ok-value.ensures.some.0 refl) c.in_ok-value.ensures.value
