use Rattle.std.proofs.Common.{[], Err, refl, ap, ◌∙◌}
use Rattle.std.proofs.lemmas.Result.{err_from_is_err_and}
use Rattle.design_stages.specs.Designs.{Settles}
use Rattle.design_stages.proofs.Cutting.{whole_goes, cut_goes, cut_stops}
use Rattle.design_stages.proofs.Staging.{stops}
use Rattle.design_stages.proofs.designing.settled.Goals as goal

pub returns-in-Narrow : goal.returns-in-Narrow
unfolding Settles
returns-in-Narrow c =
    whole_goes c.args.texts.now _ [] _ c.in-Narrow.is refl c.settled_in.ensures

pub returns-in_err-cut-in-Wide : goal.returns-in_err-cut-in-Wide
unfolding Settles
returns-in_err-cut-in-Wide c =
    let p = err_from_is_err_and c.from_residual.result c.from_residual.ensures.1 in
    stops (Settles c.args.texts.now c.args.resets.now) _ _ (p.1 ∙ ap Err p.2)
    (cut_stops c.args.texts.now c.in-Wide.cutting _ _ c.in-Wide.is c.in_err-cut-in-Wide.ensures.found)

pub returns-in_ok-cut-in-Wide : goal.returns-in_ok-cut-in-Wide
unfolding Settles
returns-in_ok-cut-in-Wide c =
    cut_goes c.args.texts.now c.in-Wide.cutting _ _ _ c.in-Wide.is c.in_ok-cut-in-Wide.ensures.found c.settled_in-in-Wide.ensures
