use Rattle.std.proofs.Common.{arith, ◌≡◌, List, refl, sym, subst}
use Rattle.std.specs.Prelude.{Contains}
use Rattle.std.proofs.lemmas.List.{take_all}
use Rattle.sdcv_base.specs.declared.settings.Setting.{Setting}
use Rattle.sdc_settings.specs.Settings.{setting_names}
use Rattle.sdc_settings.proofs.Naming.{map_is_in, same_names, other_names, not_in_more}
use Rattle.sdc_settings.proofs.fixed.is_reset.Goals as goal

pub returns-then-eq : goal.returns-then-eq
returns-then-eq c =
    let same : c.item.result.now.name ≡ c.args.name.now = same_names c.item.result.now.name c.args.name.now c.eq.result c.eq.ensures c.if-eq.true in (
      λ is. subst (Contains (setting_names c.args.resets.now)) same (map_is_in (λ (s : Setting). s.name) c.args.resets.now c.loop-k.k c.item.result.now
          c.item.ensures),
      λ has. refl,
    )

pub loop-k-preserved : goal.loop-k-preserved
loop-k-preserved c =
    not_in_more c.args.resets.now c.loop-k.k c.item.result.now c.args.name.now c.item.ensures
    (other_names c.item.result.now.name c.args.name.now c.eq.result c.eq.ensures c.if-eq.false) c.loop-k.invariant

pub returns : goal.returns
returns c =
    let all = take_all c.loop-k.k c.args.resets.now (omega (arith, c.loop-k-test.false, c.len-k-end.ensures)) in (
      λ is. absurd (grind (arith, is)),
      λ has. absurd (c.loop-k.invariant
          (subst (λ (l : List Setting). Contains (setting_names l) c.args.name.now) (sym all) has)),
    )
