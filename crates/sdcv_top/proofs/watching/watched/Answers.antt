use Rattle.std.proofs.Common.{◌≡◌, false, Err, ap, sym, ◌∙◌}
use Rattle.std.proofs.lemmas.Result.{err_from_is_err_and}
use Rattle.std.specs.Option.{option_map}
use Rattle.net_model.specs.declared.claims.Claim.{Claim}
use Rattle.design_stages.specs.declared.refusals.Refusal.TheVariants as refusal
use Rattle.sdcv_top.specs.Jobs.{Watched}
use Rattle.sdcv_top.proofs.Staging.{after_ok, after_err, planned_by, planned_memory, last_planned}
use Rattle.sdcv_top.proofs.Replays.{claim_fits, numbered_has}
use Rattle.sdcv_top.proofs.watching.watched.Goals as goal

pub returns-in_err-no_pair_line : goal.returns-in_err-no_pair_line
returns-in_err-no_pair_line c =
    let p = err_from_is_err_and c.from_residual.result c.from_residual.ensures.1 in
    planned_by _ _ _ (p.1 ∙ ap Err p.2) (planned_memory _)

pub returns-in_default : goal.returns-in_default
unfolding Watched
returns-in_default c =
    let none = rw c.as_slice-claims.ensures at (sym (sym (ap (option_map _) c.in_default.is) ∙ c.numbered.ensures)) in
    after_err _ _ (refusal.Line c.in_ok-no_pair_line.field-0) (none, c.in_ok-no_pair_line.ensures)

pub write_aiger-requires-clause-fits : goal.write_aiger-requires-clause-fits
write_aiger-requires-clause-fits c =
    let claim = rw c.as_slice-claims.ensures at (sym (sym (ap (option_map _) c.in-Some.is) ∙ c.numbered.ensures)) in
    claim_fits c.args.designed.now.linked.design c.args.designed.now.selected.claims c.args.number c.in-Some.claim.now c.requires.judged.fit claim

pub write_aiger-requires-clause-plain : goal.write_aiger-requires-clause-plain
write_aiger-requires-clause-plain c =
    let claim = rw c.as_slice-claims.ensures at (sym (sym (ap (option_map _) c.in-Some.is) ∙ c.numbered.ensures)) in
    numbered_has (λ (x : Claim). x.hazard ≡ false) c.args.designed.now.selected.claims c.args.number c.in-Some.claim.now c.requires.plain claim

pub returns-in_err-text : goal.returns-in_err-text
returns-in_err-text c =
    let p = err_from_is_err_and c.from_residual-in_err-text.result c.from_residual-in_err-text.ensures.1 in
    planned_by _ _ _ (p.1 ∙ ap Err p.2) (planned_memory _)

pub returns-in_err-symbols : goal.returns-in_err-symbols
returns-in_err-symbols c =
    let p = err_from_is_err_and c.from_residual-in_err-symbols.result c.from_residual-in_err-symbols.ensures.1 in
    planned_by _ _ _ (p.1 ∙ ap Err p.2) (planned_memory _)

pub returns-in_err-plan : goal.returns-in_err-plan
returns-in_err-plan c =
    let p = err_from_is_err_and c.from_residual-in_err-plan.result c.from_residual-in_err-plan.ensures.1 in
    planned_by _ _ _ (p.1 ∙ ap Err p.2) (planned_memory _)

pub returns : goal.returns
unfolding Watched
returns c =
    let claim = rw c.as_slice-claims.ensures at (sym (sym (ap (option_map _) c.in-Some.is) ∙ c.numbered.ensures)) in
    after_ok _ _ c.in-Some.claim.now _ claim (last_planned _ _ (c.in_ok-plan.ensures _ _ _ c.in_ok-text.ensures c.in_ok-symbols.ensures))
