-- Set literals with their reasons.
use Rattle.std.specs.Prelude.{◌≡◌, ℕ, ◌+◌, ◌<◌, ◌≤◌, List, length, take, slice_index}
use Rattle.proof_log.specs.Literals.{lit_var}
use Rattle.sat_solver.specs.Searches.{IsUnitAt}

-- the number of variables, the set literals, and beside each the place of its reason
pub record Trailed : Type 0 where
  pub vars : ℕ
  pub lits : List ℕ
  pub reasons : List ℕ

pub record IsTrail (vars : ℕ) (lits reasons : List ℕ) (room : ℕ) (places : List ℕ) : Type 0 where
  pub paired : length reasons ≡ length lits
  pub roomy : vars + 1 ≤ room
  pub long : length places ≡ vars + 1
  pub placed : (i : ℕ) → i < length lits → slice_index places (lit_var (slice_index lits i)) ≡ i

-- each literal from low on was the unset literal of its reason, a clause that was unit at that moment
abbrev pub Justified : List (List ℕ) → ℕ → List ℕ → List ℕ → Type 0
Justified clauses low lits reasons =
    (i : ℕ) → low ≤ i → i < length lits → IsUnitAt clauses (take i lits) (slice_index reasons i) (slice_index lits i)

-- the new literals are the old ones, and then the unset literals of clauses that were unit
pub record Extends (clauses : List (List ℕ)) (old new : Trailed) : Type 0 where
  pub vars : new.vars ≡ old.vars
  pub lits : old.lits ≡ take (length old.lits) new.lits
  pub longer : length old.lits ≤ length new.lits
  pub reasons : old.reasons ≡ take (length old.lits) new.reasons
  pub paired : length new.reasons ≡ length new.lits
  pub justified : Justified clauses (length old.lits) new.lits new.reasons
