use Rattle.std.proofs.Common.{Err, ap, ◌∙◌}
use Rattle.std.proofs.lemmas.Result.{err_from_is_err_and}
use Rattle.design_stages.specs.Below.{cut_below}
use Rattle.design_stages.specs.Designs.{LinksIn}
use Rattle.design_stages.proofs.Staging.{then_goes, then_refuses, then_stops, stops, linked_by}
use Rattle.design_stages.proofs.designing.linked_in.Goals as goal

pub returns-in_err-inputs-clause-found : goal.returns-in_err-inputs-clause-found
unfolding LinksIn
returns-in_err-inputs-clause-found c =
    let p = err_from_is_err_and c.from_residual.result c.from_residual.ensures.1 in
    stops (LinksIn c.args.texts.now (cut_below c.args.below.now) c.args.reset) _ _ (p.1 ∙ ap Err p.2) (then_stops _ _ _ c.in_err-inputs.ensures)

pub returns-in_err-settings-clause-found : goal.returns-in_err-settings-clause-found
unfolding LinksIn
returns-in_err-settings-clause-found c =
    let p = err_from_is_err_and c.from_residual-in_err-settings.result c.from_residual-in_err-settings.ensures.1 in
    stops (LinksIn c.args.texts.now (cut_below c.args.below.now) c.args.reset) _ _ (p.1 ∙ ap Err p.2)
    (then_refuses _ _ _ _ c.in_ok-inputs.ensures
    (then_stops _ _ _ c.in_err-settings.ensures))

pub returns-clause-found : goal.returns-clause-found
unfolding LinksIn
returns-clause-found c =
    let texts = c.args.texts.now in
    let by_options = linked_by (cut_below c.args.below.now) texts.library _ _ c.linked_under.result c.options_of-options.ensures c.linked_under.ensures.found in
    then_goes _ _ _ _ c.in_ok-inputs.ensures
    (then_goes _ _ _ _ c.in_ok-settings.ensures by_options)
