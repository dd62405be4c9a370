use Rattle.std.proofs.Common.{◌+◌, ◌<◌, refl, subst, sym, length, arith}
use Rattle.net_model.specs.Queries.{Query, clause_query}
use Rattle.net_model.specs.declared.queries.Phase.TheVariants.{Step}
use Rattle.net_model.proofs.Existence.{item_at}
use Rattle.query_asks.proofs.Asking.{refuted, answered, spent}
use Rattle.induction.specs.Steps.{AreStepsRefuted}
use Rattle.induction.proofs.Rounding.{RightAt, steps_more}
use Rattle.induction.proofs.steps.ask_steps.Goals as goal

pub run-requires-clause-found : goal.run-requires-clause-found
run-requires-clause-found c =
    let d = c.args.design.now in
    let clauses = c.args.clauses.now in
    let place = c.loop-place.place in
    let asked = c.in_ok-step.field-0 in
    let low : place < length clauses = omega (arith, c.loop-place-test.true, c.loop-place.auto) in
    let found = item_at clauses place low in
    let right : RightAt d place c.args.depth c.args.budget asked clauses =
    subst (RightAt d place c.args.depth c.args.budget asked) c.as_slice.ensures c.in_ok-step.ensures in
    (answered (clause_query d clauses found.0 Step c.args.depth) c.args.budget asked c.in-Answered.found c.in-Answered.is (right found.0 found.1)).found_in

pub returns-in-Answered : goal.returns-in-Answered
returns-in-Answered c =
    let d = c.args.design.now in
    let clauses = c.args.clauses.now in
    let place = c.loop-place.place in
    let asked = c.in_ok-step.field-0 in
    let low : place < length clauses = omega (arith, c.loop-place-test.true, c.loop-place.auto) in
    let found = item_at clauses place low in
    let right : RightAt d place c.args.depth c.args.budget asked clauses =
    subst (RightAt d place c.args.depth c.args.budget asked) c.as_slice.ensures c.in_ok-step.ensures in
    let query : Query = clause_query d clauses found.0 Step c.args.depth in
    record {
      clause = found.0;
      at = found.1;
      answer = c.in_ok-stretch-in-Answered.ensures query refl
          (answered query c.args.budget asked c.in-Answered.found c.in-Answered.is (right found.0 found.1));
    }

pub returns-in-Spent : goal.returns-in-Spent
returns-in-Spent c =
    let d = c.args.design.now in
    let clauses = c.args.clauses.now in
    let place = c.loop-place.place in
    let asked = c.in_ok-step.field-0 in
    let low : place < length clauses = omega (arith, c.loop-place-test.true, c.loop-place.auto) in
    let found = item_at clauses place low in
    let right : RightAt d place c.args.depth c.args.budget asked clauses =
    subst (RightAt d place c.args.depth c.args.budget asked) c.as_slice.ensures c.in_ok-step.ensures in
    record {
      clause = found.0;
      at = found.1;
      spends = spent (clause_query d clauses found.0 Step c.args.depth) c.args.budget asked c.in-Spent.log c.in-Spent.is (right found.0 found.1);
    }

pub loop-place-preserved : goal.loop-place-preserved
loop-place-preserved c =
    let d = c.args.design.now in
    let clauses = c.args.clauses.now in
    let place = c.loop-place.place in
    let asked = c.in_ok-step.field-0 in
    let low : place < length clauses = omega (arith, c.loop-place-test.true, c.loop-place.auto) in
    let found = item_at clauses place low in
    let right : RightAt d place c.args.depth c.args.budget asked clauses =
    subst (RightAt d place c.args.depth c.args.budget asked) c.as_slice.ensures c.in_ok-step.ensures in
    subst (AreStepsRefuted d clauses c.args.depth (place + 1)) (sym c.in_ok-push-in-Refuted.ensures.ok)
    (steps_more d clauses c.args.depth place c.loop-place.steps found.0 c.in-Refuted.step found.1
    (refuted (clause_query d clauses found.0 Step c.args.depth) c.args.budget asked c.in-Refuted.step c.in-Refuted.is (right found.0 found.1))
    c.loop-place.invariant)
