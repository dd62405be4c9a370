use Rattle.std.proofs.Common.{Err, refl, ap, ◌∙◌}
use Rattle.std.proofs.lemmas.Result.{err_from_is_err_and}
use Rattle.sdcv_top.proofs.Staging.{planned_ok, planned_err, stops}
use Rattle.sdcv_top.proofs.stages.plan.Goals as goal

pub returns-in_err-demonstrated-in-Demo-clause-planned : goal.returns-in_err-demonstrated-in-Demo-clause-planned
returns-in_err-demonstrated-in-Demo-clause-planned g c =
    let p = err_from_is_err_and c.from_residual.result c.from_residual.ensures.1 in
    rw c.in-Demo.is (stops _ _ _ _ _ _ _ (p.1 ∙ ap Err p.2) (planned_err _ _ _ _ _ _ c.in_err-demonstrated-in-Demo.ensures refl))

pub returns-in_ok-demonstrated-in-Demo-clause-planned : goal.returns-in_ok-demonstrated-in-Demo-clause-planned
returns-in_ok-demonstrated-in-Demo-clause-planned g c =
    rw c.in-Demo.is (planned_ok _ _ _ _ _ _ c.in_ok-demonstrated-in-Demo.ensures refl)
