use Rattle.std.proofs.Common.{Err, refl, ap, ◌∙◌}
use Rattle.std.proofs.lemmas.Result.{err_from_is_err_and}
use Rattle.sdcv_top.specs.Due.{Worked}
use Rattle.sdcv_top.proofs.Alike.{designs_alike}
use Rattle.sdcv_top.proofs.Holding.{held_as_said}
use Rattle.sdcv_top.proofs.Staging.{found_ok, found_err, texts_ok, texts_err, stops, count_stops}
use Rattle.sdcv_top.proofs.stages.worked.Goals as goal

pub returns-in_err-texts-clause-planned : goal.returns-in_err-texts-clause-planned
unfolding Worked
returns-in_err-texts-clause-planned g c =
    let p = err_from_is_err_and c.from_residual.result c.from_residual.ensures.1 in
    stops _ _ _ _ _ _ _ (p.1 ∙ ap Err p.2) (texts_err _ _ _ _ _ _ _ _ c.in_err-texts.ensures.found)

pub returns-in_err-designed-clause-planned : goal.returns-in_err-designed-clause-planned
unfolding Worked
returns-in_err-designed-clause-planned g c =
    let p = err_from_is_err_and c.from_residual-in_err-designed.result c.from_residual-in_err-designed.ensures.1 in
    stops _ _ _ _ _ _ _ (p.1 ∙ ap Err p.2)
    (texts_ok _ _ _ _ _ _ _ _ _ _ _ c.in_ok-texts.ensures.found c.in_ok-texts.ensures.files
    (found_err _ _ _ _ _ _ _ c.in_err-designed.ensures.found refl))

pub returns-in_err-done-clause-planned : goal.returns-in_err-done-clause-planned
unfolding Worked
returns-in_err-done-clause-planned g c =
    let p = err_from_is_err_and c.from_residual-in_err-done.result c.from_residual-in_err-done.ensures.1 in
    stops _ _ _ _ _ _ _ (p.1 ∙ ap Err p.2)
    (texts_ok _ _ _ _ _ _ _ _ _ _ _ c.in_ok-texts.ensures.found c.in_ok-texts.ensures.files
    (found_ok _ _ _ _ _ _ _ _ c.in_ok-designed.ensures.found
    (held_as_said _ _ _ _ _ _ _ _ _ _ c.in_ok-designed.ensures.found c.in_err-done.ensures.planned)))

pub returns-clause-planned : goal.returns-clause-planned
unfolding Worked
returns-clause-planned g c =
    texts_ok _ _ _ _ _ _ _ _ _ _ _ c.in_ok-texts.ensures.found c.in_ok-texts.ensures.files
    (found_ok _ _ _ _ _ _ _ _ c.in_ok-designed.ensures.found
    (held_as_said _ _ _ _ _ _ _ _ _ _ c.in_ok-designed.ensures.found c.in_ok-done.ensures.planned))

pub returns-in_err-done-clause-count : goal.returns-in_err-done-clause-count
returns-in_err-done-clause-count g c =
    let p = err_from_is_err_and c.from_residual-in_err-done.result c.from_residual-in_err-done.ensures.1 in
    count_stops _ _ _ _ _ (p.1 ∙ ap Err p.2) c.in_ok-texts.ensures.count c.in_err-done.ensures.count

pub done-requires-clause-hazard : goal.done-requires-clause-hazard
done-requires-clause-hazard g c = designs_alike _ _ _ _ c.in_ok-designed.ensures.found
