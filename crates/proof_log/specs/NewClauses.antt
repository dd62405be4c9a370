-- Clauses that unit propagation over the earlier ones does not give, and logs of a spent budget.
use Rattle.std.specs.Prelude.{◌≡◌, ℕ, true, false, List, [], ◌∷◌, ◌++◌, All, length}
use Rattle.proof_log.specs.Literals.{negated, InVars}
use Rattle.proof_log.specs.Clauses.{is_set, IsNormal, IsQuietUnder}
use Rattle.proof_log.specs.Derivations.{known_clauses, AllFollow}
use Rattle.proof_log.specs.declared.formulas.Formula.{Formula}
use Rattle.proof_log.specs.declared.derivations.DerivStep.{DerivStep}
use Rattle.proof_log.specs.declared.derivations.Derivation.{Derivation}

-- the literal u of the clause and the literals of the set show that it is new
pub record IsNewBy (known : List (List ℕ)) (clause : List ℕ) (u : ℕ) (set : List ℕ) : Type 0 where
  pub inside : is_set clause u ≡ true
  -- no two complements are set
  pub consistent : (l : ℕ) → is_set set l ≡ true → is_set set (negated l) ≡ false
  -- the negation of each literal of the clause other than u is set
  pub others : (l : ℕ) → is_set clause l ≡ true → (l ≡ u → ⊥) → is_set set (negated l) ≡ true
  pub unset : is_set set u ≡ false
  pub complement_unset : is_set set (negated u) ≡ false
  -- no known clause is false, and none is unit with its literal unset
  pub quiet : All (IsQuietUnder set) known

-- the clause is new for the known ones: unit propagation over them does not give it
abbrev pub IsNew : List (List ℕ) → List ℕ → Type 0
IsNew known clause = (u : ℕ) × (set : List ℕ) × IsNewBy known clause u set

-- each of the steps is new for the formula, the earlier steps and those before it
abbrev pub AllNew : List (List ℕ) → List DerivStep → List DerivStep → Type 0
AllNew formula earlier [] = Unit {0}
AllNew formula earlier (s ∷ ss) = IsNew (known_clauses formula earlier) s.clause × AllNew formula (earlier ++ s ∷ []) ss

-- a clause of a log is in normal form, over the variables 1 to vars, and not empty
pub record IsLogged (vars : ℕ) (clause : List ℕ) : Type 0 where
  pub normal : IsNormal clause
  pub in_vars : All (InVars vars) clause
  pub some : clause ≡ [] → ⊥

-- the log of a spent budget: so many steps, each of which follows and is new
pub record IsSpentLog (formula : Formula) (log : Derivation) (budget : ℕ) : Type 0 where
  pub long : length log.steps ≡ budget
  pub follow : AllFollow formula.clauses [] log.steps
  pub new : AllNew formula.clauses [] log.steps
  pub logged : All (λ s. IsLogged formula.vars s.clause) log.steps
