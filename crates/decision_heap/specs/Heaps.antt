-- Variables that wait for a decision, in an array with a table of their places.
use Rattle.std.specs.Prelude.{◌≡◌, ℕ, ◌+◌, ◌<◌, ◌≤◌, true, false, List, length, slice_index}
use Rattle.proof_log.specs.Clauses.{is_set}

-- the greatest variable, and those that wait
pub record Waiting : Type 0 where
  pub vars : ℕ
  pub inside : List ℕ

-- variables from 1 to vars wait in an array, and the table says where each of them stands
pub record IsHeap (vars room : ℕ) (array places scores : List ℕ) : Type 0 where
  pub roomy : vars + 1 ≤ room
  pub long : length places ≡ vars + 1
  pub scored : length scores ≡ vars + 1
  pub some : (i : ℕ) → i < length array → 0 < slice_index array i
  pub within : (i : ℕ) → i < length array → slice_index array i < vars + 1
  pub placed : (i : ℕ) → i < length array → slice_index places (slice_index array i) ≡ i

-- each variable from 1 to that number waits
pub record IsFull (count : ℕ) (w : Waiting) : Type 0 where
  pub vars : w.vars ≡ count
  pub all : (v : ℕ) → 1 ≤ v → v ≤ count → is_set w.inside v ≡ true

-- the same variables wait, as many
pub record IsSame (old new : Waiting) : Type 0 where
  pub vars : new.vars ≡ old.vars
  pub long : length new.inside ≡ length old.inside
  pub same : (v : ℕ) → is_set new.inside v ≡ is_set old.inside v

-- the variable is taken out, and the others stay
pub record IsTaken (old new : Waiting) (var : ℕ) : Type 0 where
  pub vars : new.vars ≡ old.vars
  pub some : 1 ≤ var
  pub within : var ≤ old.vars
  pub was : is_set old.inside var ≡ true
  pub out : is_set new.inside var ≡ false
  pub others : (v : ℕ) → (v ≡ var → ⊥) → is_set new.inside v ≡ is_set old.inside v
  pub fewer : length new.inside < length old.inside
