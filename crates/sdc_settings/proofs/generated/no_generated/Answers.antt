use Rattle.std.proofs.Common.{◌∙◌, ◌+◌, drop, refl, sym}
use Rattle.std.specs.List.{filter}
use Rattle.sdc_settings.specs.Settings.{is_generated}
use Rattle.sdc_settings.proofs.Sourced.{filter_taken, filter_left}
use Rattle.sdc_settings.proofs.generated.no_generated.Goals as goal

pub returns-then-is_generated-clause-err : goal.returns-then-is_generated-clause-err
returns-then-is_generated-clause-err c =
    let commands = c.args.script.now.commands in
    let place = c.loop-place.place in (
      c.item-command.result.now,
      filter is_generated (drop (place + 1) commands),
      c.loop-place.invariant
          ∙ filter_taken is_generated commands place c.item-command.result.now c.item-command.ensures (sym c.is_generated.ensures ∙ c.if-is_generated.true),
      refl,
    )

pub loop-place-preserved : goal.loop-place-preserved
loop-place-preserved c =
    c.loop-place.invariant
    ∙ filter_left is_generated c.args.script.now.commands c.loop-place.place c.item-command.result.now c.item-command.ensures
    (sym c.is_generated.ensures ∙ c.if-is_generated.false)
