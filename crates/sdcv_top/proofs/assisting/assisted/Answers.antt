use Rattle.std.proofs.Common.{Err, refl, ap, ◌∙◌}
use Rattle.std.proofs.lemmas.Result.{err_from_is_err_and}
use Rattle.sdcv_top.specs.Jobs.{Assisted}
use Rattle.sdcv_top.specs.Texts.{AssistText}
use Rattle.sdcv_top.proofs.Staging.{read_ok, read_err, plan_memory, last_due, stops}
use Rattle.sdcv_top.proofs.assisting.assisted.Goals as goal

pub returns-in_err-extra-clause-planned : goal.returns-in_err-extra-clause-planned
unfolding Assisted
returns-in_err-extra-clause-planned g c =
    let p = err_from_is_err_and c.from_residual.result c.from_residual.ensures.1 in
    stops _ _ _ _ _ _ _ (p.1 ∙ ap Err p.2) (read_err (AssistText c.args.designed.now.linked.names) _ _ _ _ _ _ _ c.in_err-extra.ensures.found)

pub returns-in_err-plan-clause-planned : goal.returns-in_err-plan-clause-planned
unfolding Assisted
returns-in_err-plan-clause-planned g c =
    let p = err_from_is_err_and c.from_residual-in_err-plan.result c.from_residual-in_err-plan.ensures.1 in
    stops _ _ _ _ _ _ _ (p.1 ∙ ap Err p.2)
    (read_ok (AssistText c.args.designed.now.linked.names) _ _ _ _ _ _ _ _ _ _ c.in_ok-extra.ensures.found c.in_ok-extra.ensures.files (plan_memory _ _ _ _ _ refl))

pub returns-clause-planned : goal.returns-clause-planned
unfolding Assisted
returns-clause-planned g c =
    let report = rw (c.as_slice.ensures, c.len.ensures) at c.in_ok-plan.ensures in
    read_ok (AssistText c.args.designed.now.linked.names) _ _ _ _ _ _ _ _ _ _ c.in_ok-extra.ensures.found c.in_ok-extra.ensures.files
    (last_due _ _ _ _ _ _ report refl)
