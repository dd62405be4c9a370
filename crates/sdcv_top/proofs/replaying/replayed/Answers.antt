use Rattle.std.proofs.Common.{ℕ, List, Err, refl, ap, sym, ◌∙◌}
use Rattle.std.proofs.lemmas.Result.{err_from_is_err_and}
use Rattle.std.specs.Option.{option_map}
use Rattle.design_stages.specs.declared.refusals.Refusal.TheVariants as refusal
use Rattle.sdcv_top.specs.Jobs.{RunAgain, Replayed}
use Rattle.sdcv_top.specs.Texts.{ReportText}
use Rattle.sdcv_top.proofs.Staging.{found_ok, found_err, read_ok, read_err, plan_memory, planned_ok, planned_err, planned_text, stops}
use Rattle.sdcv_top.proofs.Replays.{claim_fits}
use Rattle.sdcv_top.proofs.replaying.replayed.Goals as goal

pub returns-in_err-no_pair_line-clause-planned : goal.returns-in_err-no_pair_line-clause-planned
returns-in_err-no_pair_line-clause-planned g c =
    let p = err_from_is_err_and c.from_residual.result c.from_residual.ensures.1 in
    stops _ _ _ _ _ _ _ (p.1 ∙ ap Err p.2) (plan_memory _ _ _ _ _ refl)

pub returns-in_default-clause-planned : goal.returns-in_default-clause-planned
unfolding Replayed
returns-in_default-clause-planned g c =
    let none = rw c.as_slice-claims.ensures at (sym (sym (ap (option_map _) c.in_default.is) ∙ c.numbered.ensures)) in
    found_err _ _ _ _ _ _ (refusal.Line c.in_ok-no_pair_line.field-0) (none, c.in_ok-no_pair_line.ensures) refl

pub returns-in_err-bytes-clause-planned : goal.returns-in_err-bytes-clause-planned
unfolding Replayed
returns-in_err-bytes-clause-planned g c =
    let p = err_from_is_err_and c.from_residual-in_err-bytes.result c.from_residual-in_err-bytes.ensures.1 in
    let claim = rw c.as_slice-claims.ensures at (sym (sym (ap (option_map _) c.in-Some.is) ∙ c.numbered.ensures)) in
    stops _ _ _ _ _ _ _ (p.1 ∙ ap Err p.2)
    (found_ok _ _ _ _ _ _ c.in-Some.claim.now _ claim (read_err ReportText _ _ _ _ _ _ _ c.in_err-bytes.ensures.found))

pub run_again-requires-clause-fits : goal.run_again-requires-clause-fits
run_again-requires-clause-fits g c =
    let claim = rw c.as_slice-claims.ensures at (sym (sym (ap (option_map _) c.in-Some.is) ∙ c.numbered.ensures)) in
    claim_fits c.args.designed.now.linked.design c.args.designed.now.selected.claims c.args.number c.in-Some.claim.now c.requires.judged.fit
    claim

pub returns-in_err-plan-clause-planned : goal.returns-in_err-plan-clause-planned
unfolding Replayed
returns-in_err-plan-clause-planned g c =
    let p = err_from_is_err_and c.from_residual-in_err-plan.result c.from_residual-in_err-plan.ensures.1 in
    let claim = rw c.as_slice-claims.ensures at (sym (sym (ap (option_map _) c.in-Some.is) ∙ c.numbered.ensures)) in
    let due = λ (t : List ℕ). RunAgain c.args.number c.args.designed.now.linked.design c.in-Some.claim.now t in
    let again = planned_text due _ _ (Err c.in_err-plan.field-0.0) c.deref.ensures.value c.in_err-plan.ensures in
    stops _ _ _ _ _ _ _ (p.1 ∙ ap Err p.2)
    (found_ok _ _ _ _ _ _ c.in-Some.claim.now _ claim
    (read_ok ReportText _ _ _ _ _ _ _ _ _ _ c.in_ok-bytes.ensures.found c.in_ok-bytes.ensures.files (planned_err _ _ _ _ _ _ again refl)))

pub returns-clause-planned : goal.returns-clause-planned
unfolding Replayed
returns-clause-planned g c =
    let claim = rw c.as_slice-claims.ensures at (sym (sym (ap (option_map _) c.in-Some.is) ∙ c.numbered.ensures)) in
    let again = rw c.deref.ensures.value at c.in_ok-plan.ensures in
    found_ok _ _ _ _ _ _ c.in-Some.claim.now _ claim
    (read_ok ReportText _ _ _ _ _ _ _ _ _ _ c.in_ok-bytes.ensures.found c.in_ok-bytes.ensures.files (planned_ok _ _ _ _ _ _ again refl))
