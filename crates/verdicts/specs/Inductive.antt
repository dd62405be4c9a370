-- Sets of clauses over register bits that hold in every live cycle, by induction.
use Rattle.std.specs.Prelude.{◌≡◌, ℕ, ◌+◌, ◌<◌, ◌≤◌, true, List, [], ◌∷◌, Contains, Some, slice_get}
use Rattle.net_model.specs.Cycles.{IsRun, IsStretch}
use Rattle.net_model.specs.Queries.{clause_holds}
use Rattle.net_model.specs.declared.netlist.Design.{Design}
use Rattle.net_model.specs.declared.cycles.Cycle.{Cycle}
use Rattle.net_model.specs.declared.invariants.InvClause.{InvClause}

-- a cycle meets a set: each clause of it holds there
abbrev pub MeetsAll : List InvClause → Cycle → Type 0
MeetsAll set c = (clause : InvClause) → Contains set clause → clause_holds c clause ≡ true

-- every live cycle of every run from reset meets the clause
abbrev pub IsAlwaysMet : Design → InvClause → Type 0
IsAlwaysMet d clause =
    (run : List Cycle) (t : ℕ) (c : Cycle) → IsRun d run → d.reset_len ≤ t → slice_get run t ≡ Some c → clause_holds c clause ≡ true

-- each clause of a set is always met
abbrev pub AreAlwaysMet : Design → List InvClause → Type 0
AreAlwaysMet d set = (clause : InvClause) → Contains set clause → IsAlwaysMet d clause

-- the first live cycles of every run, so many of them, meet the clause
abbrev pub IsMetFirst : Design → ℕ → InvClause → Type 0
IsMetFirst d depth clause =
    (run : List Cycle) (i : ℕ) (c : Cycle) → IsRun d run → i < depth → slice_get run (d.reset_len + i) ≡ Some c → clause_holds c clause ≡ true

-- wherever the cycles below `depth` of a stretch meet a set, the cycle of that number meets the clause
abbrev pub IsMetNext : Design → ℕ → List InvClause → InvClause → Type 0
IsMetNext d depth set clause =
    (stretch : List Cycle) (c : Cycle) → IsStretch d stretch → slice_get stretch depth ≡ Some c
    → ((i : ℕ) (before : Cycle) → i < depth → slice_get stretch i ≡ Some before → MeetsAll set before) → clause_holds c clause ≡ true

-- a set is inductive where each member holds in the first live cycles of every run, and after as many cycles of a stretch that
-- meet all members; at depth 0 it has no member
pub record IsInductive (d : Design) (depth : ℕ) (set : List InvClause) : Type 0 where
  pub deep : (clause : InvClause) → Contains set clause → 0 < depth
  pub first : (clause : InvClause) → Contains set clause → IsMetFirst d depth clause
  pub next : (clause : InvClause) → Contains set clause → IsMetNext d depth set clause

-- each clause of the one is in the other
abbrev pub IsWithin : List InvClause → List InvClause → Type 0
IsWithin inner outer = (clause : InvClause) → Contains inner clause → Contains outer clause

-- each inductive set of allowed clauses lies within this set
abbrev pub CoversInductive : Design → ℕ → (InvClause → Type 0) → List InvClause → Type 0
CoversInductive d depth Allowed set =
    (other : List InvClause) → ((clause : InvClause) → Contains other clause → Allowed clause) → IsInductive d depth other → IsWithin other set

-- an inductive set of allowed clauses within which each such set lies
pub record IsGreatest (d : Design) (depth : ℕ) (Allowed : InvClause → Type 0) (kept : List InvClause) : Type 0 where
  pub allowed : (clause : InvClause) → Contains kept clause → Allowed clause
  pub inductive_ : IsInductive d depth kept
  pub greatest : CoversInductive d depth Allowed kept

-- each clause stands once: none of them stands again after itself
abbrev pub StandOnce : List InvClause → Type 0
StandOnce [] = Unit {0}
StandOnce (clause ∷ clauses) = (¬ Contains clauses clause) × StandOnce clauses
