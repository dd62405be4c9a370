use Rattle.std.proofs.Common.{◌≡◌, ◌∙◌, false, length, arith, subst, sym, refl}
use Rattle.std.proofs.lemmas.Option.{get_or_from_slice_get}
use Rattle.net_sim.proofs.SettingsPut.{SetBelow, input_below, set_more, all_set, same_bit, other_bit, not_set}
use Rattle.net_sim.proofs.settings.are_set.Goals as goal

pub at-requires : goal.at-requires
at-requires c = input_below (length c.args.ins.now) c.args.settings.now c.loop-k.k c.at-setting.result c.requires c.at-setting.ensures

pub returns-then-at-set_bit : goal.returns-then-at-set_bit
returns-then-at-set_bit c =
    let bit = get_or_from_slice_get c.args.ins.now c.at-setting.result.input c.at.result false c.at.ensures in (
      λ no_test. cc,
      λ found.
          absurd (not_set c.args.settings.now c.args.active c.args.ins.now c.loop-k.k c.at-setting.result c.at-setting.ensures
          (λ is. other_bit c.at.result c.set_bit.result c.if-at-set_bit.true (sym bit ∙ is ∙ sym c.set_bit.ensures)) found),
    )

pub loop-k-preserved : goal.loop-k-preserved
loop-k-preserved c =
    let bit = get_or_from_slice_get c.args.ins.now c.at-setting.result.input c.at.result false c.at.ensures in
    set_more c.args.settings.now c.args.active c.args.ins.now c.loop-k.k c.at-setting.result c.at-setting.ensures
    (bit ∙ same_bit c.at.result c.set_bit.result c.if-at-set_bit.false ∙ c.set_bit.ensures) c.loop-k.invariant

pub returns : goal.returns
returns c =
    let all : c.loop-k.k ≡ length c.args.settings.now = omega arith in (
      λ yes. all_set c.args.settings.now c.args.active c.args.ins.now
          (subst (SetBelow c.args.settings.now c.args.active c.args.ins.now) all c.loop-k.invariant),
      λ found. refl,
    )
