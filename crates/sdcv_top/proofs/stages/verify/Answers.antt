use Rattle.std.proofs.Common.{Err, refl, ap, ◌∙◌}
use Rattle.std.proofs.lemmas.Result.{err_from_is_err_and}
use Rattle.std.proofs.lemmas.List.Elements.{All-nil}
use Rattle.net_model.specs.Fits.{NamesRegs}
use Rattle.verdict_types.specs.Forms.{IsKeptClause}
use Rattle.sdcv_top.proofs.Staging.{plan_memory, last_due, stops}
use Rattle.sdcv_top.proofs.stages.verify.Goals as goal

pub verified-requires-clause-names : goal.verified-requires-clause-names
verified-requires-clause-names g c = All-nil (NamesRegs c.args.designed.now.linked.design)

pub verified-requires-clause-in_form : goal.verified-requires-clause-in_form
verified-requires-clause-in_form g c = All-nil IsKeptClause

pub returns-in_err-verified-in-None-clause-planned : goal.returns-in_err-verified-in-None-clause-planned
returns-in_err-verified-in-None-clause-planned g c =
    let p = err_from_is_err_and c.from_residual.result c.from_residual.ensures.1 in
    stops _ _ _ _ _ _ _ (p.1 ∙ ap Err p.2) (plan_memory _ _ _ _ _ refl)

pub returns-in_ok-verified-in-None-clause-planned : goal.returns-in_ok-verified-in-None-clause-planned
returns-in_ok-verified-in-None-clause-planned g c = rw c.in-None.is (last_due _ _ _ _ _ _ c.in_ok-verified-in-None.ensures refl)
