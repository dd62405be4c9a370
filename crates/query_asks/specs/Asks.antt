-- What an answer of the solver says of a query.
use Rattle.std.specs.Prelude.{ℕ, List, ◌⊎◌}
use Rattle.net_model.specs.Netlist.{IsSound}
use Rattle.net_model.specs.Queries.{Query, IsAnswer}
use Rattle.net_model.specs.Stimuli.{StandsFor}
use Rattle.net_model.specs.declared.netlist.Design.{Design}
use Rattle.net_model.specs.declared.cycles.Cycle.{Cycle}
use Rattle.net_model.specs.declared.cycles.Stimulus.{Stimulus}
use Rattle.cnf_encode.specs.Problems.{IsClaimQuery, IsClauseQuery, IsProblemFor, IsMadeFor}
use Rattle.cnf_encode.specs.declared.problems.Problem.{Problem}
use Rattle.proof_log.specs.Formulas.{IsModel}
use Rattle.proof_log.specs.declared.derivations.Derivation.{Derivation}
use Rattle.verdicts.specs.Logs.{own_coding, RefutesQuery, IsSpentOn}
use Rattle.verdict_types.specs.Forms.{IsInForm}
use Rattle.query_asks.specs.declared.found.Found.{Found}
use Rattle.query_asks.specs.declared.asks.Asked.{Asked}
use Rattle.query_asks.specs.declared.asks.Asked.TheVariants.{Refuted, Answered, Spent}

-- no run answers the query, and the derivation, which is in form, refutes its formula
pub record IsRefutedBy (q : Query) (derivation : Derivation) : Type 0 where
  pub refutes : RefutesQuery own_coding q derivation
  pub none : (run : List Cycle) → ¬ IsAnswer q run
  pub in_form : IsInForm derivation

-- some run or stretch answers the query
abbrev pub HasAnswer : Query → Type 0
HasAnswer q = (run : List Cycle) × IsAnswer q run

-- one that the stimulus stands for answers it
abbrev pub HasAnswerOf : Query → Stimulus → Type 0
HasAnswerOf q stimulus = (run : List Cycle) × IsAnswer q run × StandsFor stimulus run

-- a model of the formula of a query of the design
pub record IsFoundIn (d : Design) (found : Found) : Type 0 where
  pub made : IsMadeFor d found.problem
  pub model : IsModel found.problem.formula found.model

-- the model is one of the query's formula, and so the query has an answer
pub record IsFoundFor (q : Query) (found : Found) : Type 0 where
  pub found_in : IsFoundIn q.design found
  pub problem : IsProblemFor own_coding q found.problem
  pub asks : IsClaimQuery q.design q ⊎ IsClauseQuery q.design q
  pub answer : HasAnswer q

-- the query is refuted; or it has an answer, by this model; or the log spends the budget
abbrev pub IsRightOf : Query → ℕ → Asked → Type 0
IsRightOf q budget (Refuted derivation) = IsRefutedBy q derivation
IsRightOf q budget (Answered found) = IsFoundFor q found
IsRightOf q budget (Spent log) = IsSpentOn own_coding q budget log

-- the same of each query of a sound design that the problem is of
abbrev pub IsRightFor : Problem → ℕ → Asked → Type 0
IsRightFor problem budget asked =
    (d : Design) (q : Query) → IsSound d → IsClaimQuery d q ⊎ IsClauseQuery d q → IsProblemFor own_coding q problem → IsRightOf q budget asked
