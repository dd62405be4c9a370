-- Clauses, seen as lists of literals, and what a clause is where some literals are set.
use Rattle.std.specs.Prelude.{◌≡◌, ℕ, ◌<◌, ◌≤◌, ◌==◌, ◌⊎◌, Bool, true, false, not, List, [], ◌∷◌, ◌++◌, filter, length, take, drop}
use Rattle.std.specs.List.{list_any, AllByRecursion}
use Rattle.proof_log.specs.Literals.{lit_var, lit_true, negated}

-- whether the literal is in the list
unfoldable pub is_set : List ℕ → ℕ → Bool
is_set lits l = list_any (λ q. q == l) lits

-- whether some literal of the clause is true where the variables have the values v
abbrev pub clause_true : (ℕ → Bool) → List ℕ → Bool
clause_true v clause = list_any (lit_true v) clause

-- normal form: each literal's variable is below those of the literals after it
abbrev pub IsNormal : List ℕ → Type 0
IsNormal [] = Unit {0}
IsNormal (l ∷ ls) = AllByRecursion (λ q. lit_var l < lit_var q) ls × IsNormal ls

-- two of the literals are complements
abbrev pub HasComplements : List ℕ → Type 0
HasComplements lits = (l : ℕ) × (is_set lits l ≡ true) × (is_set lits (negated l) ≡ true)

-- so many literals at the front are in normal form, and are those of the old list
pub record IsNormalFront (old new : List ℕ) (count : ℕ) : Type 0 where
  pub within : count ≤ length new
  pub normal : IsNormal (take count new)
  pub same : (l : ℕ) → is_set (take count new) l ≡ is_set old l

-- the old list up to that place, and then its other literals in normal form
abbrev pub IsNormalFrom : ℕ → List ℕ → List ℕ → Type 0
IsNormalFrom start old new =
    (normal : List ℕ) × IsNormal normal × ((l : ℕ) → is_set normal l ≡ is_set (drop start old) l) × (new ≡ take start old ++ normal)

-- one more clause is kept in normal form, or left out where two of its literals are complements
abbrev pub IsKeptOf : List ℕ → List (List ℕ) → List (List ℕ) → Type 0
IsKeptOf clause old new =
    (HasComplements clause × (new ≡ old))
    ⊎ ((normal : List ℕ) × IsNormal normal × ((l : ℕ) → is_set normal l ≡ is_set clause l) × (new ≡ old ++ normal ∷ []))

-- the clause's literals whose complement is not set
abbrev pub open_literals : List ℕ → List ℕ → List ℕ
open_literals set clause = filter (λ l. not (is_set set (negated l))) clause

-- false: the complement of each literal is set
abbrev pub IsFalseUnder : List ℕ → List ℕ → Type 0
IsFalseUnder set clause = open_literals set clause ≡ []

-- unit with u unset: the complement of each literal but u is set, and u is unset
abbrev pub IsUnitUnder : List ℕ → List ℕ → ℕ → Type 0
IsUnitUnder set clause u = (open_literals set clause ≡ u ∷ []) × (is_set set u ≡ false)

-- quiet: neither false, nor unit with its literal unset
abbrev pub IsQuietUnder : List ℕ → List ℕ → Type 0
IsQuietUnder set clause = (IsFalseUnder set clause → ⊥) × ((u : ℕ) → IsUnitUnder set clause u → ⊥)
