use Rattle.std.proofs.Common.{arith, ◌≡◌, ◌∙◌, ℕ, List, [], length, sym, ap, subst}
use Rattle.std.specs.Prelude.{Some, slice_get}
use Rattle.std.proofs.lemmas.Option.{slice_get_within}
use Rattle.texts.specs.Names.{are_distinct}
use Rattle.sdcv_base.specs.declared.settings.Setting.{Setting}
use Rattle.sdc_settings.specs.Settings.{setting_names}
use Rattle.sdc_settings.proofs.Fixing.{fixed_all}
use Rattle.sdc_settings.proofs.fixed.fixed_inputs.Goals as goal

pub returns-clause-ok : goal.returns-clause-ok
returns-clause-ok c =
    fixed_all c.args.inputs.now c.args.resets.now c.args.givens.now c.loop-place.place c.loop-place.fixed
    (omega (arith, c.loop-place-test.false, c.len-place-end.ensures)) c.loop-place.invariant

pub loop-place-init : goal.loop-place-init
unfolding are_distinct
loop-place-init c = record {
  names = c.new.ensures ∙ ap setting_names (sym c.new-2.ensures);
  count = ap (length {A = ℕ}) c.new-3.ensures ∙ sym (ap length c.new-2.ensures);
  once = ap are_distinct (ap setting_names c.new-2.ensures);
  order = ap setting_names c.new-2.ensures;
  no_reset = λ g (i, low, is). absurd (omega (arith, low));
  all = λ g (i, low, is). absurd (omega (arith, low));
  first = λ j s at. absurd (let low = slice_get_within [] j s (subst (λ (l : List Setting). slice_get l j ≡ Some s) c.new-2.ensures at) in
      omega (arith, low));
}
