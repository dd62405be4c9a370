use Rattle.std.proofs.Common.{Err, ap, ◌∙◌}
use Rattle.std.proofs.lemmas.Result.{err_from_is_err_and}
use Rattle.design_stages.specs.Designs.{LinksTo}
use Rattle.design_stages.proofs.Cutting.{whole_goes, cut_goes, cut_stops}
use Rattle.design_stages.proofs.Staging.{stops}
use Rattle.design_stages.proofs.designing.linked.Goals as goal

pub returns-in-Narrow-clause-found : goal.returns-in-Narrow-clause-found
unfolding LinksTo
returns-in-Narrow-clause-found c =
    whole_goes c.args.texts.now _ _ _ c.in-Narrow.is c.new-items.ensures c.linked_in.ensures.found

pub returns-in_err-cut-in-Wide-clause-found : goal.returns-in_err-cut-in-Wide-clause-found
unfolding LinksTo
returns-in_err-cut-in-Wide-clause-found c =
    let p = err_from_is_err_and c.from_residual.result c.from_residual.ensures.1 in
    stops (LinksTo c.args.texts.now c.args.reset) _ _ (p.1 ∙ ap Err p.2)
    (cut_stops c.args.texts.now c.in-Wide.cutting _ _ c.in-Wide.is c.in_err-cut-in-Wide.ensures.found)

pub returns-in_ok-cut-in-Wide-clause-found : goal.returns-in_ok-cut-in-Wide-clause-found
unfolding LinksTo
returns-in_ok-cut-in-Wide-clause-found c =
    cut_goes c.args.texts.now c.in-Wide.cutting _ _ _ c.in-Wide.is c.in_ok-cut-in-Wide.ensures.found c.linked_in-in-Wide.ensures.found
