-- What a round of step queries says.
use Rattle.std.specs.Prelude.{◌≡◌, ℕ, List, length, Some, slice_get}
use Rattle.net_model.specs.Queries.{IsAnswer, clause_query}
use Rattle.net_model.specs.declared.netlist.Design.{Design}
use Rattle.net_model.specs.declared.cycles.Cycle.{Cycle}
use Rattle.net_model.specs.declared.invariants.InvClause.{InvClause}
use Rattle.net_model.specs.declared.queries.Phase.TheVariants.{Step}
use Rattle.proof_log.specs.declared.derivations.Derivation.{Derivation}
use Rattle.verdicts.specs.Inductive.{IsMetNext}
use Rattle.verdicts.specs.Logs.{own_coding, RefutesQuery, IsSpentOn}
use Rattle.verdict_types.specs.Forms.{IsInForm}
use Rattle.induction.specs.declared.steps.Round.{Round}
use Rattle.induction.specs.declared.steps.Round.TheVariants.{Refuted, Broken, Spent}

-- a clause follows after a stretch that meets all clauses, and its derivation, which is in form, refutes its step query against
-- them
pub record IsStepRefuted (d : Design) (clauses : List InvClause) (depth : ℕ) (clause : InvClause) (step : Derivation) : Type 0 where
  pub refuted : RefutesQuery own_coding (clause_query d clauses clause Step depth) step
  pub next : IsMetNext d depth clauses clause
  pub in_form : IsInForm step

-- the first clauses, so many of them, are refuted, each by the derivation at its place
pub record AreStepsRefuted (d : Design) (clauses : List InvClause) (depth count : ℕ) (steps : List Derivation) : Type 0 where
  pub as_many : length steps ≡ count
  pub each : (k : ℕ) (clause : InvClause) (step : Derivation) → slice_get clauses k ≡ Some clause → slice_get steps k ≡ Some step
      → IsStepRefuted d clauses depth clause step

-- a stretch answers the step query of the clause at a place
pub record IsAnsweredAt (d : Design) (clauses : List InvClause) (depth place : ℕ) (stretch : List Cycle) : Type 0 where
  pub clause : InvClause
  pub at : slice_get clauses place ≡ Some clause
  pub answer : IsAnswer (clause_query d clauses clause Step depth) stretch

-- the log spends the budget on it
pub record IsSpentAt (d : Design) (clauses : List InvClause) (depth place budget : ℕ) (log : Derivation) : Type 0 where
  pub clause : InvClause
  pub at : slice_get clauses place ≡ Some clause
  pub spends : IsSpentOn own_coding (clause_query d clauses clause Step depth) budget log

-- how a round ends
abbrev pub IsRightRound : Design → List InvClause → ℕ → ℕ → Round → Type 0
IsRightRound d clauses depth budget (Refuted steps) = AreStepsRefuted d clauses depth (length clauses) steps
IsRightRound d clauses depth budget (Broken place stretch) = IsAnsweredAt d clauses depth place stretch
IsRightRound d clauses depth budget (Spent place log) = IsSpentAt d clauses depth place budget log
