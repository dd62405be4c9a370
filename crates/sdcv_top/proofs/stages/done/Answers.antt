use Rattle.std.proofs.Common.{Err, Bool, refl, ap, subst, ◌∙◌}
use Rattle.std.proofs.lemmas.Result.{err_from_is_err_and}
use Rattle.sdcv_top.proofs.Alike.{AreAlike}
use Rattle.sdcv_top.proofs.Staging.{stops, planned_ok, planned_err}
use Rattle.sdcv_top.proofs.stages.done.Goals as goal

pub verify-requires-clause-judged : goal.verify-requires-clause-judged
verify-requires-clause-judged g c = c.requires.judged

pub returns-in-Verify-clause-planned : goal.returns-in-Verify-clause-planned
returns-in-Verify-clause-planned g c = rw (c.in-Verify.is, ← c.run_options.ensures) c.verify.ensures.planned

pub checked-requires : goal.checked-requires
checked-requires g c = c.requires.judged

pub replayed-requires-clause-judged : goal.replayed-requires-clause-judged
replayed-requires-clause-judged g c = c.requires.judged

pub returns-in-Check-clause-planned : goal.returns-in-Check-clause-planned
returns-in-Check-clause-planned g c = rw c.in-Check.is c.checked.ensures.planned

pub returns-in-Replay-clause-planned : goal.returns-in-Replay-clause-planned
returns-in-Replay-clause-planned g c = rw c.in-Replay.is c.replayed.ensures.planned

pub watched-requires-clause-judged : goal.watched-requires-clause-judged
watched-requires-clause-judged g c = c.requires.judged

pub watched-requires-clause-plain : goal.watched-requires-clause-plain
watched-requires-clause-plain g c =
    let range = rw c.in-Aiger.is at c.requires.job in
    subst (λ (hazard : Bool). AreAlike hazard c.args.designed.now.selected.claims) range.0 c.requires.hazard

pub returns-in_err-watched-in-Aiger-clause-planned : goal.returns-in_err-watched-in-Aiger-clause-planned
returns-in_err-watched-in-Aiger-clause-planned g c =
    let p = err_from_is_err_and c.from_residual.result c.from_residual.ensures.1 in
    rw c.in-Aiger.is (stops _ _ _ _ _ _ _ (p.1 ∙ ap Err p.2) (planned_err _ _ _ _ _ _ c.in_err-watched-in-Aiger.ensures refl))

pub returns-in_ok-watched-in-Aiger-clause-planned : goal.returns-in_ok-watched-in-Aiger-clause-planned
returns-in_ok-watched-in-Aiger-clause-planned g c =
    rw c.in-Aiger.is (planned_ok _ _ _ _ _ _ c.in_ok-watched-in-Aiger.ensures refl)
