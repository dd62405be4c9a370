use Rattle.std.proofs.Common.{subst, ap, length, arith}
use Rattle.sat_solver.specs.Answers.{IsAnswer}
use Rattle.query_asks.proofs.Asking.{satisfied, unsatisfied, spent_on}
use Rattle.query_asks.proofs.Forming.{refutation_in_form}
use Rattle.query_asks.proofs.asks.answer_of.Goals as goal

pub returns-in-Sat : goal.returns-in-Sat
returns-in-Sat c d q sound asks is =
    satisfied d q c.args.problem c.in-Sat.model sound asks is
    (subst (IsAnswer c.args.problem.formula c.args.budget) c.in-Sat.is c.in_ok-model.ensures.answer)

pub returns-in-Unsat : goal.returns-in-Unsat
returns-in-Unsat c d q sound asks is =
    let formula = c.args.problem.formula in
    let derivation = c.in-Unsat.derivation in
    let refutation = subst (IsAnswer formula c.args.budget) c.in-Unsat.is c.in_ok-model.ensures.answer in
    unsatisfied d q c.args.problem c.args.budget derivation sound asks is refutation
    (refutation_in_form formula c.args.budget derivation c.requires.few (omega (arith, ap length c.as_slice-steps.ensures)) refutation)

pub returns-in-Spent : goal.returns-in-Spent
returns-in-Spent c d q sound asks is =
    spent_on q c.args.problem c.args.budget c.in-Spent.log is
    (subst (IsAnswer c.args.problem.formula c.args.budget) c.in-Spent.is c.in_ok-model.ensures.answer)
