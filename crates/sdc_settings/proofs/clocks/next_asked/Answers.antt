use Rattle.std.proofs.Common.{arith, ◌≡◌, ◌∙◌, ◌+◌, ◌-◌, sym, subst}
use Rattle.std.specs.Prelude.{Some, slice_get}
use Rattle.sdc_settings.specs.Settings.{is_asked}
use Rattle.sdc_settings.proofs.Sourced.{filter_taken, filter_left}
use Rattle.sdc_settings.proofs.clocks.next_asked.Goals as goal

pub returns-then-branch : goal.returns-then-branch
returns-then-branch c =
    let test = is_asked c.args.inputs.now c.args.asked.now in
    let place : c.loop-place.place ≡ c.loop-place.place + 1 - 1 = omega arith in (
      c.item.result.now,
      omega arith,
      subst (λ k. slice_get c.args.commands.now k ≡ Some c.item.result.now) place c.item.ensures,
      c.loop-place.invariant
          ∙ filter_taken test c.args.commands.now c.loop-place.place c.item.result.now c.item.ensures (sym c.in_ok-is_asked.ensures ∙ c.if-branch.true),
    )

pub loop-place-preserved : goal.loop-place-preserved
loop-place-preserved c =
    c.loop-place.invariant
    ∙ filter_left (is_asked c.args.inputs.now c.args.asked.now) c.args.commands.now c.loop-place.place c.item.result.now c.item.ensures
    (sym c.in_ok-is_asked.ensures ∙ c.if-branch.false)
