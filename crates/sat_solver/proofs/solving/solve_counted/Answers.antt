use Rattle.std.proofs.Common.{sym, subst}
use Rattle.sat_solver.specs.Searches.{Search}
use Rattle.sat_solver.specs.Answers.{IsAnswer, formula_of, answer_of}
use Rattle.sat_solver.specs.declared.solving.Answer.{Answer}
use Rattle.sat_solver.proofs.solving.solve_counted.Goals as goal

pub returns-clause-answer : goal.returns-clause-answer
returns-clause-answer c =
    let of_engine : Search → Type 0 = λ e. IsAnswer (formula_of e) c.args.budget (answer_of c.in_ok-end.end c.log.new.steps) in
    let of_formula : Answer → Type 0 = IsAnswer c.args.formula.now c.args.budget in
    subst of_formula (sym c.answered.ensures) (subst of_engine c.in_ok-engine.ensures c.in_ok-end.ensures.answer)
