use Rattle.std.proofs.Common.{◌∙◌, ap, ap₂, sym, List, ℕ, Some, false, true}
use Rattle.std.specs.Str.{bytes_eq}
use Rattle.sdcv_words.proofs.Steps.{setting_none, setting_one, setting_short, setting_zero}
use Rattle.sdcv_words.proofs.settings.setting_in.Goals as goal

pub returns-then-text-le2 : goal.returns-then-text-le2
returns-then-text-le2 c = setting_short c.args.text.now c.if-text-le2.true

pub returns-then-eq : goal.returns-then-eq
returns-then-eq c =
    let zero = ap₂ bytes_eq (sym c.split_at.ensures.back) (sym c.as_slice.ensures) ∙ sym c.if-eq.ensures in
    ap (λ (n : List ℕ). Some (n, false)) c.split_at.ensures.front ∙ setting_zero c.args.text.now c.if-text-le2.false zero

pub returns-then-eq-2 : goal.returns-then-eq-2
returns-then-eq-2 c =
    let zero = ap₂ bytes_eq (sym c.split_at.ensures.back) (sym c.as_slice.ensures) ∙ sym c.if-eq.ensures in
    let one = ap₂ bytes_eq (sym c.split_at.ensures.back) (sym c.as_slice-else-eq.ensures) ∙ sym c.if-eq-2.ensures in
    ap (λ (n : List ℕ). Some (n, true)) c.split_at.ensures.front ∙ setting_one c.args.text.now c.if-text-le2.false zero one

pub returns-else-eq-2 : goal.returns-else-eq-2
returns-else-eq-2 c =
    let zero = ap₂ bytes_eq (sym c.split_at.ensures.back) (sym c.as_slice.ensures) ∙ sym c.if-eq.ensures in
    let one = ap₂ bytes_eq (sym c.split_at.ensures.back) (sym c.as_slice-else-eq.ensures) ∙ sym c.if-eq-2.ensures in
    setting_none c.args.text.now c.if-text-le2.false zero one
