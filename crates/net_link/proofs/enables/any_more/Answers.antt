use Rattle.std.proofs.Common.{◌≡◌, ℕ, ◌+◌, ap, sym, ◌∙◌, add-one}
use Rattle.net_model.specs.Form.{OrForm, PinForm}
use Rattle.link_defs.specs.Parts.{folded}
use Rattle.net_link.proofs.enables.any_more.Goals as goal

-- one place more
folded-more : (n : ℕ) → folded OrForm (n + 1) ≡ OrForm (folded OrForm n) (PinForm (n + 1))
folded-more n = ap (λ (k : ℕ). folded OrForm k) (add-one n)

pub loop-k-preserved : goal.loop-k-preserved
loop-k-preserved c = c.in_ok-func.ensures ∙ rw (c.loop-k.invariant, c.pin.ensures) (sym (folded-more c.loop-k.k))
