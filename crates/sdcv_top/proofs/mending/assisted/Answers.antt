use Rattle.std.proofs.Common.{Err, refl, ap, ◌∙◌}
use Rattle.std.proofs.lemmas.Result.{err_from_is_err_and}
use Rattle.sdcv_top.specs.Mending.{MendedAssisted}
use Rattle.sdcv_top.specs.Texts.{AssistText}
use Rattle.sdcv_top.proofs.Staging.{read_ok, read_err, planned_ok, planned_err, stops, refusal_counts}
use Rattle.sdcv_top.proofs.mending.assisted.Goals as goal

pub returns-in_err-extra-clause-planned : goal.returns-in_err-extra-clause-planned
unfolding MendedAssisted
returns-in_err-extra-clause-planned g c =
    let p = err_from_is_err_and c.from_residual.result c.from_residual.ensures.1 in
    stops _ _ _ _ _ _ _ (p.1 ∙ ap Err p.2) (read_err (AssistText c.args.mendable.now.designed.linked.names) _ _ _ _ _ _ _ c.in_err-extra.ensures.found)

pub returns-in_err-plan-clause-planned : goal.returns-in_err-plan-clause-planned
unfolding MendedAssisted
returns-in_err-plan-clause-planned g c =
    let p = err_from_is_err_and c.from_residual-in_err-plan.result c.from_residual-in_err-plan.ensures.1 in
    let planned = rw (c.as_slice.ensures, c.len.ensures) at c.in_err-plan.ensures in
    stops _ _ _ _ _ _ _ (p.1 ∙ ap Err p.2)
    (read_ok (AssistText c.args.mendable.now.designed.linked.names) _ _ _ _ _ _ _ _ _ _ c.in_ok-extra.ensures.found c.in_ok-extra.ensures.files
    (planned_err _ _ _ _ _ _ planned refl))

pub returns-clause-planned : goal.returns-clause-planned
unfolding MendedAssisted
returns-clause-planned g c =
    let planned = rw (c.as_slice.ensures, c.len.ensures) at c.in_ok-plan.ensures in
    read_ok (AssistText c.args.mendable.now.designed.linked.names) _ _ _ _ _ _ _ _ _ _ c.in_ok-extra.ensures.found c.in_ok-extra.ensures.files
    (planned_ok _ _ _ _ _ _ planned refl)

pub returns-in_err-plan-clause-count : goal.returns-in_err-plan-clause-count
returns-in_err-plan-clause-count g c =
    let p = err_from_is_err_and c.from_residual-in_err-plan.result c.from_residual-in_err-plan.ensures.1 in
    refusal_counts _ _ _ _ (p.1 ∙ ap Err p.2) c.in_ok-extra.ensures.count
