use Rattle.std.proofs.Common.{◌+◌, List, sym, subst}
use Rattle.verdict_types.specs.declared.outcomes.Verdict.{Verdict}
use Rattle.judgements.specs.Judgements.{IsFound, AreFoundFirst}
use Rattle.judgements.proofs.Verdicts.{found_none, found_more}
use Rattle.judgements.proofs.judging.verdicts_on.Goals as goal

pub loop-place-init : goal.loop-place-init
loop-place-init g c =
    let found = λ (vs : List Verdict). AreFoundFirst c.args.design.now c.args.claims.now c.args.inv.now.kept c.args.limits.now 0 vs in
    subst found (sym c.new-verdicts.ensures) (found_none c.args.design.now c.args.claims.now c.args.inv.now.kept c.args.limits.now)

pub loop-place-preserved : goal.loop-place-preserved
loop-place-preserved g c =
    let place = c.loop-place.place in
    let found = λ (vs : List Verdict). AreFoundFirst c.args.design.now c.args.claims.now c.args.inv.now.kept c.args.limits.now (place + 1) vs in
    let is : IsFound c.args.design.now c.item-claim.result.now c.args.inv.now.kept c.args.limits.now c.in_ok-prove.field-0 =
    record { right = c.in_ok-prove.ensures.right; holds = c.in_ok-prove.ensures.holds; violated = c.in_ok-prove.ensures.violated } in
    subst found (sym c.in_ok-push.ensures.ok)
    (found_more c.args.design.now c.args.claims.now c.args.inv.now.kept c.args.limits.now c.loop-place.verdicts place c.item-claim.result.now
    c.in_ok-prove.field-0 c.loop-place.invariant c.item-claim.ensures is c.in_ok-prove.ensures.in_form)
