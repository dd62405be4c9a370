-- What the solver's answers say of a formula.
use Rattle.std.specs.Prelude.{ℕ, ◌+◌, ◌≤◌, List, length, All}
use Rattle.proof_log.specs.Literals.{InVars}
use Rattle.proof_log.specs.Clauses.{IsNormal}
use Rattle.proof_log.specs.Formulas.{IsModel}
use Rattle.proof_log.specs.Derivations.{Refutes}
use Rattle.proof_log.specs.NewClauses.{IsSpentLog}
use Rattle.proof_log.specs.declared.formulas.Formula.{Formula}
use Rattle.proof_log.specs.declared.derivations.Derivation.{Derivation}
use Rattle.proof_log.specs.declared.derivations.DerivStep.{DerivStep}
use Rattle.sat_solver.specs.Searches.{Search}
use Rattle.sat_solver.specs.declared.solving.Answer.{Answer}
use Rattle.sat_solver.specs.declared.solving.Answer.TheVariants.{Sat, Unsat, Spent}
use Rattle.sat_solver.specs.declared.solving.End.{End}
use Rattle.sat_solver.specs.declared.solving.End.TheVariants as end

-- the derivation refutes the formula, in normal form over its variables, with at most so many steps before the last
pub record IsRefutation (formula : Formula) (budget : ℕ) (derivation : Derivation) : Type 0 where
  pub refutes : Refutes formula derivation
  pub normal : All (λ s. IsNormal s.clause) derivation.steps
  pub in_vars : All (λ s. All (InVars formula.vars) s.clause) derivation.steps
  pub short : length derivation.steps ≤ budget + 1

-- the answer is right: a model, a refutation, or the log of a spent budget
abbrev pub IsAnswer : Formula → ℕ → Answer → Type 0
IsAnswer formula budget (Sat model) = IsModel formula model
IsAnswer formula budget (Unsat derivation) = IsRefutation formula budget derivation
IsAnswer formula budget (Spent log) = IsSpentLog formula log budget

abbrev pub IsSpent : Answer → Type 0
IsSpent (Sat model) = ⊥
IsSpent (Unsat derivation) = ⊥
IsSpent (Spent log) = Unit {0}

-- the formula that an engine's clauses are
abbrev pub formula_of : Search → Formula
formula_of s = record { vars = s.vars; clauses = s.clauses }

-- the answer that the end of a search is, with the clauses that were learnt
abbrev pub answer_of : End → List DerivStep → Answer
answer_of (end.Values values) steps = Sat (record { values = values })
answer_of end.Refuted steps = Unsat (record { steps = steps })
answer_of end.Spent steps = Spent (record { steps = steps })
