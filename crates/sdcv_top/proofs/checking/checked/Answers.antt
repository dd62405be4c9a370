use Rattle.std.proofs.Common.{Err, refl, ap, ◌∙◌}
use Rattle.std.proofs.lemmas.Result.{err_from_is_err_and}
use Rattle.sdcv_top.specs.Jobs.{Checked}
use Rattle.sdcv_top.specs.Texts.{CertText}
use Rattle.sdcv_top.proofs.Staging.{read_ok, read_err, plan_memory, last_due, stops}
use Rattle.sdcv_top.proofs.checking.checked.Goals as goal

pub returns-in_err-bytes-clause-planned : goal.returns-in_err-bytes-clause-planned
unfolding Checked
returns-in_err-bytes-clause-planned g c =
    let p = err_from_is_err_and c.from_residual.result c.from_residual.ensures.1 in
    stops _ _ _ _ _ _ _ (p.1 ∙ ap Err p.2) (read_err CertText _ _ _ _ _ _ _ c.in_err-bytes.ensures.found)

pub returns-in_err-plan-clause-planned : goal.returns-in_err-plan-clause-planned
unfolding Checked
returns-in_err-plan-clause-planned g c =
    let p = err_from_is_err_and c.from_residual-in_err-plan.result c.from_residual-in_err-plan.ensures.1 in
    stops _ _ _ _ _ _ _ (p.1 ∙ ap Err p.2)
    (read_ok CertText _ _ _ _ _ _ _ _ _ _ c.in_ok-bytes.ensures.found c.in_ok-bytes.ensures.files (plan_memory _ _ _ _ _ refl))

pub returns-clause-planned : goal.returns-clause-planned
unfolding Checked
returns-clause-planned g c =
    let answer = rw c.deref.ensures.value at c.in_ok-plan.ensures in
    read_ok CertText _ _ _ _ _ _ _ _ _ _ c.in_ok-bytes.ensures.found c.in_ok-bytes.ensures.files (last_due _ _ _ _ _ _ answer refl)
