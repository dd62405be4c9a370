use Rattle.std.proofs.Common.{Err, refl, ap, ◌∙◌}
use Rattle.std.proofs.lemmas.Result.{err_from_is_err_and}
use Rattle.sdcv_top.specs.Due.{FindsPairs}
use Rattle.sdcv_top.proofs.Noticing.{told_alike}
use Rattle.sdcv_top.proofs.Staging.{found_ok, found_err, texts_ok, texts_err, stops, plan_memory, last_due, refusal_counts, memory_counts}
use Rattle.sdcv_top.proofs.finding.found_out.Goals as goal

pub returns-in_err-texts-clause-planned : goal.returns-in_err-texts-clause-planned
unfolding FindsPairs
returns-in_err-texts-clause-planned g c =
    let p = err_from_is_err_and c.from_residual.result c.from_residual.ensures.1 in
    stops _ _ _ _ _ _ _ (p.1 ∙ ap Err p.2) (texts_err _ _ _ _ _ _ _ _ c.in_err-texts.ensures.found)

pub returns-in_err-linked-clause-planned : goal.returns-in_err-linked-clause-planned
unfolding FindsPairs
returns-in_err-linked-clause-planned g c =
    let p = err_from_is_err_and c.from_residual-in_err-linked.result c.from_residual-in_err-linked.ensures.1 in
    stops _ _ _ _ _ _ _ (p.1 ∙ ap Err p.2)
    (texts_ok _ _ _ _ _ _ _ _ _ _ _ c.in_ok-texts.ensures.found c.in_ok-texts.ensures.files
    (found_err _ _ _ _ _ _ _ c.in_err-linked.ensures.found refl))

pub returns-in_err-detected-clause-planned : goal.returns-in_err-detected-clause-planned
unfolding FindsPairs
returns-in_err-detected-clause-planned g c =
    let p = err_from_is_err_and c.from_residual-in_err-detected.result c.from_residual-in_err-detected.ensures.1 in
    stops _ _ _ _ _ _ _ (p.1 ∙ ap Err p.2)
    (texts_ok _ _ _ _ _ _ _ _ _ _ _ c.in_ok-texts.ensures.found c.in_ok-texts.ensures.files
    (found_ok _ _ _ _ _ _ _ _ c.in_ok-linked.ensures.found
    (found_err _ _ _ _ _ _ _ c.in_err-detected.ensures refl)))

pub returns-in_err-notices-clause-planned : goal.returns-in_err-notices-clause-planned
unfolding FindsPairs
returns-in_err-notices-clause-planned g c =
    let p = err_from_is_err_and c.from_residual-in_err-notices.result c.from_residual-in_err-notices.ensures.1 in
    stops _ _ _ _ _ _ _ (p.1 ∙ ap Err p.2)
    (texts_ok _ _ _ _ _ _ _ _ _ _ _ c.in_ok-texts.ensures.found c.in_ok-texts.ensures.files
    (found_ok _ _ _ _ _ _ _ _ c.in_ok-linked.ensures.found
    (found_ok _ _ _ _ _ _ _ _ c.in_ok-detected.ensures (plan_memory _ _ _ _ _ refl))))

pub returns-in_err-plan-clause-planned : goal.returns-in_err-plan-clause-planned
unfolding FindsPairs
returns-in_err-plan-clause-planned g c =
    let p = err_from_is_err_and c.from_residual-in_err-plan.result c.from_residual-in_err-plan.ensures.1 in
    stops _ _ _ _ _ _ _ (p.1 ∙ ap Err p.2)
    (texts_ok _ _ _ _ _ _ _ _ _ _ _ c.in_ok-texts.ensures.found c.in_ok-texts.ensures.files
    (found_ok _ _ _ _ _ _ _ _ c.in_ok-linked.ensures.found
    (found_ok _ _ _ _ _ _ _ _ c.in_ok-detected.ensures (plan_memory _ _ _ _ _ refl))))

pub returns-clause-planned : goal.returns-clause-planned
unfolding FindsPairs
returns-clause-planned g c =
    texts_ok _ _ _ _ _ _ _ _ _ _ _ c.in_ok-texts.ensures.found c.in_ok-texts.ensures.files
    (found_ok _ _ _ _ _ _ _ _ c.in_ok-linked.ensures.found
    (found_ok _ _ _ _ _ _ _ _ c.in_ok-detected.ensures (last_due _ _ _ _ _ _ (told_alike _ _ _ _ _ _ _ _ _ _ _ c.free_count.ensures c.in_ok-notices.ensures c.in_ok-plan.ensures) refl)))

pub returns-in_err-detected-clause-count : goal.returns-in_err-detected-clause-count
returns-in_err-detected-clause-count g c =
    let p = err_from_is_err_and c.from_residual-in_err-detected.result c.from_residual-in_err-detected.ensures.1 in
    refusal_counts _ _ _ _ (p.1 ∙ ap Err p.2) c.in_ok-texts.ensures.count

pub returns-in_err-notices-clause-count : goal.returns-in_err-notices-clause-count
returns-in_err-notices-clause-count g c =
    let p = err_from_is_err_and c.from_residual-in_err-notices.result c.from_residual-in_err-notices.ensures.1 in
    memory_counts _ _ _ (p.1 ∙ ap Err p.2) c.in_ok-texts.ensures.count

pub returns-in_err-plan-clause-count : goal.returns-in_err-plan-clause-count
returns-in_err-plan-clause-count g c =
    let p = err_from_is_err_and c.from_residual-in_err-plan.result c.from_residual-in_err-plan.ensures.1 in
    memory_counts _ _ _ (p.1 ∙ ap Err p.2) c.in_ok-texts.ensures.count
