-- The needed keys of a query, in the order of their numbers.
use Rattle.std.specs.Prelude.{◌≡◌, ℕ, zero, suc, ◌+◌, ◌<◌, ◌≤◌, Bool, List, [], length, All, Option, Some, None, slice_get, if◌then◌else◌}
use Rattle.net_model.specs.declared.netlist.Design.{Design}
use Rattle.net_model.specs.declared.claims.Claim.{Claim}
use Rattle.net_model.specs.declared.invariants.InvClause.{InvClause}
use Rattle.net_model.specs.Queries.{Query, Violates, Breaks}
use Rattle.query_model.specs.Formula.{definitions, asked_clauses, has_key, AreMovedFor, AreNeeded}
use Rattle.query_model.specs.Variables.{number_of}
use Rattle.query_model.specs.declared.keys.Key.{Key}
use Rattle.query_model.specs.declared.keys.KeyLit.{KeyLit}
use Rattle.query_model.specs.declared.keys.Coding.{Coding}

-- the key of a variable, if it has one
abbrev pub key_of : List Key → ℕ → Option Key
key_of keys zero = None
key_of keys (suc n) = slice_get keys n

-- the number of a key, if it is one of these
abbrev pub number_if_any : List Key → Key → Option ℕ
number_if_any keys k = if has_key keys k then Some (number_of keys k) else None

-- these are the needed keys of a query, ascending
pub record AreFramesOf (coding : Coding) (q : Query) (keys : List Key) : Type 0 where
  pub moved : List (List Bool)
  pub are_moved : AreMovedFor q.design q.question moved
  pub are_needed : AreNeeded (definitions coding q moved) (asked_clauses q) keys

-- it is so of the clause at a place
abbrev pub AtPlace : List InvClause → ℕ → (InvClause → Type 0) → Type 0
AtPlace inv place P = (clause : InvClause) → slice_get inv place ≡ Some clause → P clause

-- these are the needed keys of each query about the claim in so many cycles, where this is what is asked of them
abbrev pub AreNeededOfClaim : Coding → Design → Claim → ℕ → List (List Bool) → List (List KeyLit) → List Key → Type 0
AreNeededOfClaim coding d claim cycles moved asked keys =
    (q : Query) (offset clean : ℕ) → q.design ≡ d → q.cycles ≡ cycles → q.question ≡ Violates claim offset clean
    → AreNeeded (definitions coding q moved) asked keys

-- the same of each query about a clause over register bits
abbrev pub AreNeededOfClause : Coding → Design → ℕ → List (List KeyLit) → List Key → Type 0
AreNeededOfClause coding d cycles asked keys =
    (q : Query) (clause : InvClause) → q.design ≡ d → q.cycles ≡ cycles → q.question ≡ Breaks clause
    → AreNeeded (definitions coding q []) asked keys

-- the key is of one of these cycles or the one after, of a layer and a rail that a fitting claim may have, and of a net, a
-- register's bit or one of 50 further points
pub record IsWithin (d : Design) (cycles : ℕ) (k : Key) : Type 0 where
  pub cycle : k.cycle ≤ cycles
  pub layer : k.layer ≤ 5
  pub rail : k.rail ≤ 1
  pub point : k.point < d.nets + length d.regs + 50

-- so is the key of each literal
abbrev pub AreWithin : Design → ℕ → List (List KeyLit) → Type 0
AreWithin d cycles clauses = All (All (λ (l : KeyLit). IsWithin d cycles l.key)) clauses
