use Rattle.std.proofs.Common.{Err, refl, ap, ◌∙◌}
use Rattle.std.proofs.lemmas.Result.{err_from_is_err_and}
use Rattle.design_stages.specs.Designs.{SettlesIn}
use Rattle.design_stages.proofs.Staging.{then_finds, then_refuses, then_stops, stops}
use Rattle.design_stages.proofs.designing.settled_in.Goals as goal

pub returns-in_err-inputs : goal.returns-in_err-inputs
unfolding SettlesIn
returns-in_err-inputs c =
    let p = err_from_is_err_and c.from_residual.result c.from_residual.ensures.1 in
    stops (SettlesIn c.args.texts.now c.args.source.now c.args.resets.now) _ _ (p.1 ∙ ap Err p.2) (then_stops _ _ _ c.in_err-inputs.ensures)

pub returns-in_err-settings : goal.returns-in_err-settings
unfolding SettlesIn
returns-in_err-settings c =
    let p = err_from_is_err_and c.from_residual-in_err-settings.result c.from_residual-in_err-settings.ensures.1 in
    stops (SettlesIn c.args.texts.now c.args.source.now c.args.resets.now) _ _ (p.1 ∙ ap Err p.2)
    (then_refuses _ _ _ _ c.in_ok-inputs.ensures
    (then_stops _ _ _ c.in_err-settings.ensures))

pub returns : goal.returns
unfolding SettlesIn
returns c =
    then_finds _ _ _ _ c.in_ok-inputs.ensures
    (then_finds _ _ _ _ c.in_ok-settings.ensures refl)
