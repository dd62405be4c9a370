-- What is left of the candidates after their base queries.
use Rattle.std.specs.Prelude.{◌≡◌, ℕ, ◌<◌, List, [], ◌∷◌, ◌++◌, map, drop, All, Contains}
use Rattle.net_model.specs.Cycles.{IsRun}
use Rattle.net_model.specs.declared.netlist.Design.{Design}
use Rattle.net_model.specs.declared.invariants.InvClause.{InvClause}
use Rattle.net_model.specs.declared.queries.Phase.TheVariants.{Base}
use Rattle.net_model.specs.Queries.{clause_query}
use Rattle.proof_log.specs.declared.derivations.Derivation.{Derivation}
use Rattle.verdicts.specs.Inductive.{StandOnce, CoversInductive}
use Rattle.verdicts.specs.Kept.{IsEntry, IsUnspent}
use Rattle.verdicts.specs.Logs.{own_coding, IsSpentOn}
use Rattle.verdict_types.specs.declared.kept.InvSpent.{InvSpent}
use Rattle.verdict_types.specs.declared.kept.InvSet.{InvSet}
use Rattle.induction.specs.Members.{clause_of}
use Rattle.induction.specs.Bases.{FailsInRun, IsBased}
use Rattle.induction.specs.declared.members.Member.{Member}
use Rattle.induction.specs.declared.pools.Pool.{Pool}

-- what is known of the clauses that are left: each stands once and has no entry, no inductive set of candidates without an entry
-- has another, and the entries are right
pub record IsSearch (d : Design) (depth budget : ℕ) (candidates left : List InvClause) (spent : List InvSpent) : Type 0 where
  pub once : StandOnce left
  pub unspent : (clause : InvClause) → Contains left clause → IsUnspent candidates spent clause
  pub covers : CoversInductive d depth (IsUnspent candidates spent) left
  pub entries : All (IsEntry d depth budget candidates left) spent

-- each member has its base derivations
abbrev pub AreBased : Design → ℕ → List Member → Type 0
AreBased d depth members = (m : Member) → Contains members m → IsBased d depth m.clause m.base

-- after the first candidates, so many of them: those that are left are the members, and all later candidates
pub record IsPoolAfter (d : Design) (depth budget : ℕ) (candidates : List InvClause) (count : ℕ) (pool : Pool) : Type 0 where
  pub search : IsSearch d depth budget candidates (map clause_of pool.members ++ drop count candidates) pool.spent
  pub based : AreBased d depth pool.members
  pub runs : All (IsRun d) pool.runs

-- after all candidates
pub record IsPool (d : Design) (depth budget : ℕ) (candidates : List InvClause) (pool : Pool) : Type 0 where
  pub search : IsSearch d depth budget candidates (map clause_of pool.members) pool.spent
  pub based : AreBased d depth pool.members

-- nothing is looked at
pub record IsEmptyPool (pool : Pool) : Type 0 where
  pub members : pool.members ≡ []
  pub spent : pool.spent ≡ []
  pub runs : pool.runs ≡ []

-- the entry of a clause whose base query at an offset spends the budget
abbrev pub base_entry : InvClause → ℕ → Derivation → InvSpent
base_entry clause offset log = record { clause = clause; phase = Base; offset = offset; against = clause ∷ []; place = 0; log = log }

-- a clause is looked at: it becomes a member; or it fails in a run from reset; or it gets an entry
pub data IsTried (d : Design) (depth budget : ℕ) (clause : InvClause) (old new : Pool) : Type 0 where
  Added : (base : List Derivation) → new.members ≡ old.members ++ record { clause = clause; base = base } ∷ [] → new.spent ≡ old.spent
      → All (IsRun d) new.runs → IsBased d depth clause base → IsTried d depth budget clause old new
  Failed : new.members ≡ old.members → new.spent ≡ old.spent → All (IsRun d) new.runs → FailsInRun d clause → IsTried d depth budget clause old new
  Entered : (offset : ℕ) (log : Derivation) → new.members ≡ old.members → new.spent ≡ old.spent ++ base_entry clause offset log ∷ []
      → All (IsRun d) new.runs → offset < depth → IsSpentOn own_coding (clause_query d (clause ∷ []) clause Base offset) budget log
      → IsTried d depth budget clause old new

-- the set of a depth in which nothing is kept
pub record IsEmptySet (depth : ℕ) (set : InvSet) : Type 0 where
  pub at_depth : set.depth ≡ depth
  pub kept : set.kept ≡ []
  pub proofs : set.proofs ≡ []
  pub spent : set.spent ≡ []
