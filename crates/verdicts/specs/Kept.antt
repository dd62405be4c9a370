-- What a set of kept clauses says, with the candidates whose query spent its budget.
use Rattle.std.specs.Prelude.{◌≡◌, ℕ, ◌<◌, List, [], ◌∷◌, All, Contains, Some, slice_get}
use Rattle.net_model.specs.Queries.{clause_query}
use Rattle.net_model.specs.declared.netlist.Design.{Design}
use Rattle.net_model.specs.declared.invariants.InvClause.{InvClause}
use Rattle.net_model.specs.declared.queries.Phase.{Phase}
use Rattle.net_model.specs.declared.queries.Phase.TheVariants.{Base, Step}
use Rattle.verdicts.specs.Inductive.{IsWithin, IsGreatest, StandOnce, AreAlwaysMet}
use Rattle.verdicts.specs.Logs.{own_coding, IsSpentOn}
use Rattle.verdicts.specs.Certified.{ProveKept}
use Rattle.verdict_types.specs.declared.kept.InvSpent.{InvSpent}
use Rattle.verdict_types.specs.declared.kept.InvSet.{InvSet}

-- what an entry's query is asked against: in the base phase nothing but the clause, at an offset below the depth; in the step
-- phase candidates, all kept clauses among them, at the depth
abbrev pub IsAskedAgainst : ℕ → List InvClause → List InvClause → InvSpent → Phase → Type 0
IsAskedAgainst depth candidates kept e Base = (e.offset < depth) × (e.against ≡ e.clause ∷ [])
IsAskedAgainst depth candidates kept e Step = (e.offset ≡ depth) × IsWithin e.against candidates × IsWithin kept e.against

-- an entry is a candidate that is not kept, and its log spends the budget on its query
pub record IsEntry (d : Design) (depth budget : ℕ) (candidates kept : List InvClause) (e : InvSpent) : Type 0 where
  pub candidate : Contains candidates e.clause
  pub left_out : ¬ Contains kept e.clause
  pub at : slice_get e.against e.place ≡ Some e.clause
  pub against : IsAskedAgainst depth candidates kept e e.phase
  pub log : IsSpentOn own_coding (clause_query d e.against e.clause e.phase e.offset) budget e.log

-- a candidate without an entry
pub record IsUnspent (candidates : List InvClause) (spent : List InvSpent) (clause : InvClause) : Type 0 where
  pub candidate : Contains candidates clause
  pub no_entry : (e : InvSpent) → Contains spent e → ¬ (e.clause ≡ clause)

-- the kept clauses, each once, are the greatest inductive set of the candidates without an entry; they have derivations, and so
-- every live cycle of every run meets them
pub record IsKeptSet (d : Design) (depth budget : ℕ) (candidates : List InvClause) (set : InvSet) : Type 0 where
  pub at_depth : set.depth ≡ depth
  pub greatest : IsGreatest d depth (IsUnspent candidates set.spent) set.kept
  pub once : StandOnce set.kept
  pub proofs : ProveKept own_coding d set.kept depth set.proofs
  pub met : AreAlwaysMet d set.kept
  pub entries : All (IsEntry d depth budget candidates set.kept) set.spent
