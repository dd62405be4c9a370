use Rattle.std.proofs.Common.{Err, ap, ◌∙◌}
use Rattle.std.proofs.lemmas.Result.{err_from_is_err_and}
use Rattle.sdcv_top.specs.Jobs.{RunAgain}
use Rattle.sdcv_top.proofs.Staging.{after_ok, after_err, planned_by, planned_memory, last_planned}
use Rattle.sdcv_top.proofs.replaying.run_again.Goals as goal

pub returns-in_err-stimulus : goal.returns-in_err-stimulus
unfolding RunAgain
returns-in_err-stimulus c =
    let p = err_from_is_err_and c.from_residual.result c.from_residual.ensures.1 in
    planned_by _ _ _ (p.1 ∙ ap Err p.2) (after_err _ _ _ c.in_err-stimulus.ensures)

pub returns-in_err-answer : goal.returns-in_err-answer
unfolding RunAgain
returns-in_err-answer c =
    let p = err_from_is_err_and c.from_residual-in_err-answer.result c.from_residual-in_err-answer.ensures.1 in
    planned_by _ _ _ (p.1 ∙ ap Err p.2) (after_ok _ _ _ _ c.in_ok-stimulus.ensures (after_err _ _ _ c.in_err-answer.ensures))

pub returns-in_err-plan : goal.returns-in_err-plan
unfolding RunAgain
returns-in_err-plan c =
    let p = err_from_is_err_and c.from_residual-in_err-plan.result c.from_residual-in_err-plan.ensures.1 in
    planned_by _ _ _ (p.1 ∙ ap Err p.2)
    (after_ok _ _ _ _ c.in_ok-stimulus.ensures (after_ok _ _ _ _ c.in_ok-answer.ensures (planned_memory _)))

pub returns : goal.returns
unfolding RunAgain
returns c = after_ok _ _ _ _ c.in_ok-stimulus.ensures (after_ok _ _ _ _ c.in_ok-answer.ensures (last_planned _ _ c.in_ok-plan.ensures))
