-- What an engine keeps between its calls.
use Rattle.std.specs.Prelude.{◌≡◌, ℕ, zero, suc, true, All, ◌<◌, ◌≤◌, ◌⊎◌, List, length, take, slice_index}
use Rattle.sat_solver.specs.Searches.{AllInVars, IsQuiet, IsUnitAt, IsUnset}
use Rattle.sat_solver.specs.Trails.{Trailed}
use Rattle.proof_log.specs.Literals.{lit_var}
use Rattle.proof_log.specs.Clauses.{is_set, IsNormal}
use Rattle.decision_heap.specs.Heaps.{Waiting}
use Rattle.sat_solver.specs.Watches.{IsQueued, Halves}
use Rattle.sat_solver.specs.declared.propagation.Queue.{Queue}

-- a level begins at that place
abbrev pub IsStart : List ℕ → ℕ → Type 0
IsStart starts i = (k : ℕ) × (k < length starts) × (slice_index starts k ≡ i)

pub record IsSearch (clauses : List (List ℕ)) (t : Trailed) (starts : List ℕ) : Type 0 where
  pub in_vars : AllInVars t.vars clauses
  pub ordered : (j k : ℕ) → j < k → k < length starts → slice_index starts j < slice_index starts k
  pub deep : (k : ℕ) → k < length starts → k ≤ slice_index starts k
  pub within : (k : ℕ) → k < length starts → slice_index starts k < length t.lits
  pub quiet : (k : ℕ) → k < length starts → IsQuiet clauses (take (slice_index starts k) t.lits)
  pub paired : length t.reasons ≡ length t.lits
  pub justified : (i : ℕ) → i < length t.lits → IsStart starts i ⊎ IsUnitAt clauses (take i t.lits) (slice_index t.reasons i) (slice_index t.lits i)

-- what an engine keeps between its calls: of each level its queue knows what it knew when the level was opened
pub record IsEngine (clauses : List (List ℕ)) (t : Trailed) (starts walks : List ℕ) (q : Queue) : Type 0 where
  pub search : IsSearch clauses t starts
  pub normal : All IsNormal clauses
  pub queued : IsQueued clauses t q
  pub levels : length walks ≡ length starts
  pub low : (k : ℕ) → k < length starts → slice_index walks k ≤ slice_index starts k
  pub below : (k : ℕ) → k < length starts
      → Halves q.watches.literals (take (slice_index walks k) t.lits) (take (slice_index starts k) t.lits)

-- each unset variable waits for a decision
pub record AreWaiting (count : ℕ) (lits : List ℕ) (w : Waiting) : Type 0 where
  pub vars : w.vars ≡ count
  pub waits : (l : ℕ) → IsUnset count lits l → is_set w.inside (lit_var l) ≡ true

-- where the level below that one begins, 0 for the lowest
abbrev pub level_floor : List ℕ → ℕ → ℕ
level_floor starts zero = 0
level_floor starts (suc k) = slice_index starts k
