-- What an engine is seen as, and what a search knows of its clauses.
use Rattle.std.specs.Prelude.{◌≡◌, ℕ, ◌<◌, ◌≤◌, ◌⊎◌, true, false, List, length, take, Some, All, slice_get, slice_index}
use Rattle.proof_log.specs.Literals.{literal, negated, InVars}
use Rattle.proof_log.specs.Clauses.{is_set, IsFalseUnder, IsUnitUnder, IsQuietUnder}

-- the number of variables, the clauses, the set literals, and where among these each level begins
pub record Search : Type 0 where
  pub vars : ℕ
  pub clauses : List (List ℕ)
  pub lits : List ℕ
  pub starts : List ℕ

abbrev pub search_of : ℕ → List (List ℕ) → List ℕ → List ℕ → Search
search_of vars clauses lits starts = record { vars = vars; clauses = clauses; lits = lits; starts = starts }

-- the literals of that level, which is below the present one, and of those below it
abbrev pub lits_up_to : Search → ℕ → List ℕ
lits_up_to s level = take (slice_index s.starts level) s.lits

abbrev pub AllInVars : ℕ → List (List ℕ) → Type 0
AllInVars vars clauses = All (λ c. All (InVars vars) c) clauses

-- no clause is false, and none is unit with its literal unset
abbrev pub IsQuiet : List (List ℕ) → List ℕ → Type 0
IsQuiet clauses set = All (IsQuietUnder set) clauses

-- the clause at that place is false
abbrev pub IsFalseAt : List (List ℕ) → List ℕ → ℕ → Type 0
IsFalseAt clauses set place = (clause : List ℕ) × (slice_get clauses place ≡ Some clause) × IsFalseUnder set clause

-- the clause at that place is unit, with u unset
abbrev pub IsUnitAt : List (List ℕ) → List ℕ → ℕ → ℕ → Type 0
IsUnitAt clauses set place u = (clause : List ℕ) × (slice_get clauses place ≡ Some clause) × IsUnitUnder set clause u

-- the new literals are the old ones, and then each is the unset literal of a clause that was unit at that moment
pub record Propagates (clauses : List (List ℕ)) (old new : List ℕ) : Type 0 where
  pub longer : length old ≤ length new
  pub kept : old ≡ take (length old) new
  pub units : (i : ℕ) → length old ≤ i → i < length new → (place : ℕ) × IsUnitAt clauses (take i new) place (slice_index new i)

-- every variable is set
abbrev pub AllSet : ℕ → List ℕ → Type 0
AllSet vars set =
    (var : ℕ) → 1 ≤ var → var ≤ vars → (is_set set (literal var true) ≡ true) ⊎ (is_set set (literal var false) ≡ true)

-- the literal is of a variable that is unset
pub record IsUnset (vars : ℕ) (set : List ℕ) (l : ℕ) : Type 0 where
  pub in_vars : InVars vars l
  pub not_true : is_set set l ≡ false
  pub not_false : is_set set (negated l) ≡ false
