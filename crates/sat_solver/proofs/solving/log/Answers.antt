use Rattle.std.proofs.Common.{◌≡◌, ◌∙◌, List, true, length, sym, ap, subst, arith}
use Rattle.proof_log.specs.Clauses.{clause_true}
use Rattle.proof_log.specs.Formulas.{value_in}
use Rattle.proof_log.specs.declared.derivations.DerivStep.{DerivStep}
use Rattle.sat_solver.specs.Searches.{Search}
use Rattle.sat_solver.specs.Answers.{IsRefutation, formula_of}
use Rattle.sat_solver.proofs.Counting.{Spent-below}
use Rattle.sat_solver.proofs.Logging.{LogSoFar, log_same, log_more, refutation_from, spent_from, holds_of_formula}
use Rattle.sat_solver.proofs.solving.log.Goals as goal

pub returns-in_default-clause-answer : goal.returns-in_default-clause-answer
returns-in_default-clause-answer c =
    let log = log_same (formula_of c.args.engine.now) c.args.budget _ c.search.new.engine.vars _ c.search.new.engine.clauses c.loop-conflict.steps
    c.search.ensures.vars c.search.ensures.clauses c.loop-conflict.invariant in (
      c.in_ok-values.ensures.long ∙ log.vars_same,
      holds_of_formula (formula_of c.args.engine.now) c.args.budget _ _ c.loop-conflict.steps (λ x. clause_true (value_in c.in_ok-values.values) x ≡ true) log
          c.in_ok-values.ensures.model,
    )

pub returns-then-level-eq0-clause-answer : goal.returns-then-level-eq0-clause-answer
returns-then-level-eq0-clause-answer c =
    let log = log_same (formula_of c.args.engine.now) c.args.budget _ c.search.new.engine.vars _ c.search.new.engine.clauses c.loop-conflict.steps
    c.search.ensures.vars c.search.ensures.clauses c.loop-conflict.invariant in
    let P : List DerivStep → Type 0 = λ ss. IsRefutation (formula_of c.args.engine.now) c.args.budget (record { steps = ss }) in
    subst P (sym c.in_ok-push.ensures.ok)
    (refutation_from (formula_of c.args.engine.now) c.args.budget _ _ c.loop-conflict.steps c.in_ok-last_step.field-0 log c.in_ok-last_step.ensures.empty
    c.in_ok-last_step.ensures.follows)

pub returns-then-len-budget-clause-never_spent : goal.returns-then-len-budget-clause-never_spent
returns-then-len-budget-clause-never_spent c = λ enough spent.
    let long : length c.loop-conflict.steps ≡ c.args.budget = omega (arith, c.len.ensures) in
    let few = Spent-below (formula_of c.args.engine.now) _ c.args.budget (spent_from (formula_of c.args.engine.now) c.args.budget c.loop-conflict.engine.vars
    c.loop-conflict.engine.clauses c.loop-conflict.steps c.loop-conflict.invariant long) in
    absurd (omega arith)

pub loop-conflict-preserved : goal.loop-conflict-preserved
loop-conflict-preserved c =
    let log = log_same (formula_of c.args.engine.now) c.args.budget _ c.search.new.engine.vars _ c.search.new.engine.clauses c.loop-conflict.steps
    c.search.ensures.vars c.search.ensures.clauses c.loop-conflict.invariant in
    let r = c.in_ok-learnt.learnt in
    let P : List DerivStep → Type 0 = LogSoFar (formula_of c.args.engine.now) c.args.budget c.learn.new.self.vars c.learn.new.self.clauses in
    let learnt = subst P (sym c.in_ok-push-2.ensures.ok)
    (log_more (formula_of c.args.engine.now) c.args.budget _ c.learn.new.self.vars _ c.learn.new.self.clauses
    c.search.new.engine.lits c.search.new.engine.starts c.loop-conflict.steps r.step r.level r.unit log
    (omega (arith, c.if-len-budget.false, c.len.ensures, log.short)) c.in_ok-learnt.ensures.learnt
    (ap (λ (s : Search). s.vars) c.in_ok-learnt.ensures.asserted) (ap (λ (s : Search). s.clauses) c.in_ok-learnt.ensures.asserted)) in
    log_same (formula_of c.args.engine.now) c.args.budget _ c.restart.new.engine.vars _ c.restart.new.engine.clauses _
    c.restart.ensures.vars c.restart.ensures.clauses learnt
