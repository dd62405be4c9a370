use Rattle.std.proofs.Common.{◌+◌, List, refl, subst, sym}
use Rattle.net_model.specs.Queries.{Query, claim_query}
use Rattle.net_model.specs.declared.queries.Phase.TheVariants.{Base, Step}
use Rattle.proof_log.specs.declared.derivations.Derivation.{Derivation}
use Rattle.query_asks.proofs.Asking.{refuted, answered, spent}
use Rattle.verdicts.proofs.Cutting.{holds_at}
use Rattle.pair_prove.proofs.Growing.{OpenSoFar, open_more, justified_in_form, stays, witness_of}
use Rattle.pair_prove.proofs.deciding.decide.Goals as goal

pub returns-in-Spent-2-clause-right : goal.returns-in-Spent-2-clause-right
returns-in-Spent-2-clause-right c =
    let d = c.args.design.now in
    let claim = c.args.claim.now in
    let kept = c.args.kept.now in
    let depth = c.loop-base.depth in
    let base : Query = claim_query d claim Base depth kept in
    let step : Query = claim_query d claim Step depth kept in (
      c.loop-base.invariant.reached,
      holds_at d claim kept depth c.requires.sound
          (refuted base c.args.limits.budget c.in_ok-found.field-0 c.in-Refuted.derivation c.in-Refuted.is c.in_ok-found.ensures).none,
      spent step c.args.limits.budget c.in_ok-step.field-0 c.in-Spent-2.log c.in-Spent-2.is c.in_ok-step.ensures,
    )

pub returns-in-Refuted-2-clause-right : goal.returns-in-Refuted-2-clause-right
returns-in-Refuted-2-clause-right c =
    let step : Query = claim_query c.args.design.now c.args.claim.now Step c.loop-base.depth c.args.kept.now in
    let found = refuted step c.args.limits.budget c.in_ok-step.field-0 c.in-Refuted-2.step c.in-Refuted-2.is c.in_ok-step.ensures in
    (c.loop-base.invariant.reached, record { none = found.none; base_refuted = c.loop-base.invariant.refuted; step_refuted = found.refutes })

pub returns-in-Refuted-2-clause-in_form : goal.returns-in-Refuted-2-clause-in_form
returns-in-Refuted-2-clause-in_form c =
    let step : Query = claim_query c.args.design.now c.args.claim.now Step c.loop-base.depth c.args.kept.now in
    let found = refuted step c.args.limits.budget c.in_ok-step.field-0 c.in-Refuted-2.step c.in-Refuted-2.is c.in_ok-step.ensures in
    justified_in_form c.args.design.now c.args.claim.now c.args.kept.now c.args.limits.depth c.loop-base.depth c.loop-base.base c.in-Refuted-2.step
    c.requires.few c.loop-base.invariant found.in_form

pub returns-in-Answered-clause-right : goal.returns-in-Answered-clause-right
returns-in-Answered-clause-right c =
    let d = c.args.design.now in
    let claim = c.args.claim.now in
    let kept = c.args.kept.now in
    let depth = c.loop-base.depth in
    let base : Query = claim_query d claim Base depth kept in
    let found = answered base c.args.limits.budget c.in_ok-found.field-0 c.in-Answered.found c.in-Answered.is c.in_ok-found.ensures in
    let answer = c.in_ok-stimulus-in-Answered.ensures base refl found in (
      c.loop-base.invariant.reached,
      witness_of d claim kept depth answer.0 c.in_ok-stimulus-in-Answered.stimulus answer.1 answer.2,
    )

pub returns-then-depth-limits-clause-right : goal.returns-then-depth-limits-clause-right
returns-then-depth-limits-clause-right c =
    let d = c.args.design.now in
    let claim = c.args.claim.now in
    let kept = c.args.kept.now in
    let depth = c.loop-base.depth in
    let base : Query = claim_query d claim Base depth kept in
    let step : Query = claim_query d claim Step depth kept in
    let found = answered step c.args.limits.budget c.in_ok-step.field-0 c.in-Answered-2.field-0 c.in-Answered-2.is c.in_ok-step.ensures in
    stays d claim kept c.args.limits depth c.if-depth-limits.true c.loop-base.invariant.reached
    (holds_at d claim kept depth c.requires.sound
    (refuted base c.args.limits.budget c.in_ok-found.field-0 c.in-Refuted.derivation c.in-Refuted.is c.in_ok-found.ensures).none)
    found.answer

pub loop-base-preserved : goal.loop-base-preserved
loop-base-preserved c =
    let d = c.args.design.now in
    let claim = c.args.claim.now in
    let kept = c.args.kept.now in
    let depth = c.loop-base.depth in
    let base : Query = claim_query d claim Base depth kept in
    let step : Query = claim_query d claim Step depth kept in
    let none = refuted base c.args.limits.budget c.in_ok-found.field-0 c.in-Refuted.derivation c.in-Refuted.is c.in_ok-found.ensures in
    let found = answered step c.args.limits.budget c.in_ok-step.field-0 c.in-Answered-2.field-0 c.in-Answered-2.is c.in_ok-step.ensures in
    subst (λ (logs : List Derivation). OpenSoFar d claim kept c.args.limits.depth (depth + 1) logs) (sym c.in_ok-push.ensures.ok)
    (open_more d claim kept c.args.limits.depth depth c.loop-base.base c.in-Refuted.derivation c.requires.sound
    c.loop-base.invariant c.if-depth-limits.false none found.answer)
