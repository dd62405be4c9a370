-- Problems of queries.
use Rattle.std.specs.Prelude.{◌≡◌, ◌≤◌, ◌⊎◌, ℕ, true, List, All}
use Rattle.net_model.specs.Fits.{Fits}
use Rattle.net_model.specs.declared.netlist.Design.{Design}
use Rattle.net_model.specs.declared.cycles.Cycle.{Cycle}
use Rattle.net_model.specs.declared.claims.Claim.{Claim}
use Rattle.net_model.specs.declared.invariants.InvClause.{InvClause}
use Rattle.net_model.specs.declared.queries.Phase.{Phase}
use Rattle.net_model.specs.Queries.{Query, IsAnswer, claim_query, clause_query}
use Rattle.query_model.specs.Variables.{IsProblemOf, by_number}
use Rattle.net_model.specs.Fits.{NamesRegs}
use Rattle.query_model.specs.Laws.{AgreesWith, HasRails}
use Rattle.proof_log.specs.Formulas.{IsModel, value_in}
use Rattle.proof_log.specs.declared.models.Model.{Model}
use Rattle.query_model.specs.declared.keys.Coding.{Coding}
use Rattle.cnf_encode.specs.declared.problems.Problem.{Problem}

-- the problem is that of the query in a coding: its clauses over its needed keys, with the query's cycles and resets
pub record IsProblemFor (coding : Coding) (q : Query) (problem : Problem) : Type 0 where
  pub live : problem.live ≡ q.live
  pub cycles : problem.cycles ≡ q.cycles
  pub clauses : IsProblemOf coding q problem.frames problem.formula.vars problem.formula.clauses

-- some model of the problem's clauses agrees with these cycles
abbrev pub HasModelFor : Design → Problem → List Cycle → Type 0
HasModelFor d problem run =
    (m : Model) × IsModel problem.formula m × AgreesWith d problem.frames (by_number problem.frames (value_in m.values)) run

-- each answer of the query has one
abbrev pub IsCompleteFor : Query → Problem → Type 0
IsCompleteFor q problem = (run : List Cycle) → IsAnswer q run → HasModelFor q.design problem run

-- a query about a claim that fits, with clauses over the design's registers
pub record IsClaimQuery (d : Design) (q : Query) : Type 0 where
  pub claim : Claim
  pub phase : Phase
  pub depth : ℕ
  pub inv : List InvClause
  pub fits : Fits d claim
  pub few : depth ≤ 64
  pub names : All (NamesRegs d) inv
  pub is : q ≡ claim_query d claim phase depth inv

-- a query about a clause over the design's registers
pub record IsClauseQuery (d : Design) (q : Query) : Type 0 where
  pub clause : InvClause
  pub phase : Phase
  pub depth : ℕ
  pub inv : List InvClause
  pub name : NamesRegs d clause
  pub few : depth ≤ 64
  pub names : All (NamesRegs d) inv
  pub is : q ≡ clause_query d inv clause phase depth

-- the problem is that of some query of the design, in some coding
pub record IsMadeFor (d : Design) (problem : Problem) : Type 0 where
  pub coding : Coding
  pub query : Query
  pub asks : IsClaimQuery d query ⊎ IsClauseQuery d query
  pub is : IsProblemFor coding query problem

-- where hazards count, the rails of these cycles' layers are in the model of each query about a claim that the problem is of
abbrev pub HasRailsFor : Design → Problem → Model → List Cycle → Type 0
HasRailsFor d problem model run =
    (coding : Coding) (q : Query) (asks : IsClaimQuery d q) → asks.claim.hazard ≡ true → IsProblemFor coding q problem
    → HasRails d asks.claim problem.frames (by_number problem.frames (value_in model.values)) run
