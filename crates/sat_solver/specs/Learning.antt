-- What is learnt from a conflict.
use Rattle.std.specs.Prelude.{◌≡◌, ℕ, ◌-◌, ◌<◌, ◌≤◌, true, false, List, length, map, take, All, slice_index}
use Rattle.proof_log.specs.Literals.{negated, InVars}
use Rattle.proof_log.specs.Clauses.{is_set, IsNormal}
use Rattle.proof_log.specs.Derivations.{LeadsToConflict}
use Rattle.proof_log.specs.NewClauses.{IsNewBy}
use Rattle.proof_log.specs.declared.derivations.DerivStep.{DerivStep}
use Rattle.sat_solver.specs.Searches.{Search, lits_up_to}

-- each literal of the clause but u is false
abbrev pub OthersFalse : List ℕ → List ℕ → ℕ → Type 0
OthersFalse set clause u = (l : ℕ) → is_set clause l ≡ true → (l ≡ u → ⊥) → is_set set (negated l) ≡ true

-- some literal of the clause other than u is not false
abbrev pub OtherOpen : List ℕ → List ℕ → ℕ → Type 0
OtherOpen set clause u = (l : ℕ) × (is_set clause l ≡ true) × (l ≡ u → ⊥) × (is_set set (negated l) ≡ false)

-- the first set literals, so many, make each literal of the clause but u false, and fewer of them do not
pub record IsFrontLen (lits clause : List ℕ) (u len : ℕ) : Type 0 where
  pub falsified : (n : ℕ) → len ≤ n → OthersFalse (take n lits) clause u
  pub least : (n : ℕ) → n < len → OtherOpen (take n lits) clause u

-- the level is the greatest of the clause's literals other than u, or 0 where there is none:
-- up to it they are all false, and up to each lower level one is not
pub record IsLevel (lits starts clause : List ℕ) (u level : ℕ) : Type 0 where
  pub below : level < length starts
  pub falsified : OthersFalse (take (slice_index starts level) lits) clause u
  pub least : (k : ℕ) → k < level → OtherOpen (take (slice_index starts k) lits) clause u

-- the step's clause is asserting: it follows, is new, and is unit at that level
pub record IsLearnt (s : Search) (step : DerivStep) (level unit : ℕ) : Type 0 where
  pub normal : IsNormal step.clause
  pub in_vars : All (InVars s.vars) step.clause
  pub follows : LeadsToConflict s.clauses (map negated step.clause) step.hints
  -- the literals of the levels below the present one show it to be new, with the unit unset
  pub new : IsNewBy s.clauses step.clause unit (lits_up_to s (length s.starts - 1))
  -- no literal of level 0 makes one of the clause false
  pub above_zero : (l : ℕ) → is_set step.clause l ≡ true → is_set (lits_up_to s 0) (negated l) ≡ false
  pub back : IsLevel s.lits s.starts step.clause unit level
