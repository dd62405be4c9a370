use Rattle.std.proofs.Common.{Err, refl, ap, ◌∙◌}
use Rattle.std.proofs.lemmas.Result.{err_from_is_err_and}
use Rattle.std.proofs.lemmas.List.Elements.{All-nil}
use Rattle.net_model.specs.Fits.{NamesRegs}
use Rattle.verdict_types.specs.Forms.{IsKeptClause}
use Rattle.sdcv_top.proofs.Staging.{planned_ok, planned_err, stops}
use Rattle.sdcv_top.proofs.mending.mended_with.Goals as goal

pub mended-requires-clause-names : goal.mended-requires-clause-names
mended-requires-clause-names g c = All-nil (NamesRegs c.args.mendable.now.designed.linked.design)

pub mended-requires-clause-in_form : goal.mended-requires-clause-in_form
mended-requires-clause-in_form g c = All-nil IsKeptClause

pub returns-in_err-mended-in-None-clause-planned : goal.returns-in_err-mended-in-None-clause-planned
returns-in_err-mended-in-None-clause-planned g c =
    let p = err_from_is_err_and c.from_residual.result c.from_residual.ensures.1 in
    rw c.in-None.is (stops _ _ _ _ _ _ _ (p.1 ∙ ap Err p.2) (planned_err _ _ _ _ _ _ c.in_err-mended-in-None.ensures refl))

pub returns-in_ok-mended-in-None-clause-planned : goal.returns-in_ok-mended-in-None-clause-planned
returns-in_ok-mended-in-None-clause-planned g c = rw c.in-None.is (planned_ok _ _ _ _ _ _ c.in_ok-mended-in-None.ensures refl)
