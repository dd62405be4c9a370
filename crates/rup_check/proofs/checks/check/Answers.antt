use Rattle.std.proofs.Common.{◌≡◌, ◌≢◌, ◌+◌, ◌<◌, List, [], ℕ, Some, length, get_or, take, ap, subst, arith}
use Rattle.std.proofs.lemmas.Result.{err_from_is_err_and}
use Rattle.proof_log.specs.Derivations.{EndsEmpty}
use Rattle.proof_log.specs.declared.derivations.DerivStep.{DerivStep}
use Rattle.proof_log.proofs.Refutation.{HasNoModel-from_refutes}
use Rattle.rup_check.specs.Faults.{step_fault}
use Rattle.rup_check.specs.declared.faults.CheckFault.TheVariants.{Memory}
use Rattle.rup_check.proofs.NoFault.{first_of_step, refused_from_fault, follow_from_no_fault, no_fault_at_end}
use Rattle.rup_check.proofs.checks.check.Goals as goal

pub returns-in_err-check_step-clause-fault : goal.returns-in_err-check_step-clause-fault
returns-in_err-check_step-clause-fault c =
    let steps = c.args.derivation.now.steps in
    let shown = c.as_slice-steps.ensures in
    let e = c.in_err-check_step.field-0.0 in
    let L : List DerivStep → Type 0 = λ xs. c.loop-at.at < length xs in
    let S : List DerivStep → Type 0 = λ xs. c.index-steps-at.result ≡ get_or xs c.loop-at.at c.index-steps-at.result in
    let G : List DerivStep → Type 0 = λ xs. e ≢ Memory → step_fault c.args.formula.now.clauses (take c.loop-at.at xs) c.index-steps-at.result
    (c.loop-at.at + 1) ≡ Some e in
    let p = err_from_is_err_and c.from_residual-in_err-check_step.result c.from_residual-in_err-check_step.ensures.1 in
    rw (p.1, p.2)
    (first_of_step c.args.formula.now c.args.derivation.now c.loop-at.at c.index-steps-at.result e
    (subst L shown (omega arith)) (subst S shown c.index-steps-at.is) c.loop-at.invariant
    (subst G shown c.in_err-check_step.ensures))

pub returns-in_err-check_step-clause-refused : goal.returns-in_err-check_step-clause-refused
returns-in_err-check_step-clause-refused c =
    refused_from_fault c.args.formula.now c.args.derivation.now c.from_residual-in_err-check_step.result (returns-in_err-check_step-clause-fault c)

pub returns-then-ends_empty-clause-refutes : goal.returns-then-ends_empty-clause-refutes
returns-then-ends_empty-clause-refutes c _ =
    let shown = c.as_slice-steps.ensures in
    let E : List DerivStep → Type 0 = EndsEmpty in
    let none = no_fault_at_end c.args.formula.now.clauses c.args.derivation.now.steps c.loop-at.at _ (omega (arith, ap length shown)) c.loop-at.invariant in
    (follow_from_no_fault c.args.formula.now.clauses c.args.derivation.now.steps [] none, subst E shown (c.ends_empty.ensures.0 c.if-ends_empty.true))

pub returns-then-ends_empty-clause-no_model : goal.returns-then-ends_empty-clause-no_model
returns-then-ends_empty-clause-no_model c h =
    HasNoModel-from_refutes c.args.formula.now c.args.derivation.now (returns-then-ends_empty-clause-refutes c h)
