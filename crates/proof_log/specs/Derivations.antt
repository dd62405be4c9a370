-- Reverse unit propagation: which steps follow, and which derivations refute a formula.
use Rattle.std.specs.Prelude.{◌≡◌, ℕ, zero, suc, ◌-◌, ◌⊎◌, Option, Some, None, List, [], ◌∷◌, ◌++◌, map, length, slice_get}
use Rattle.proof_log.specs.Literals.{negated}
use Rattle.proof_log.specs.Clauses.{IsFalseUnder, IsUnitUnder}
use Rattle.proof_log.specs.declared.formulas.Formula.{Formula}
use Rattle.proof_log.specs.declared.derivations.DerivStep.{DerivStep}
use Rattle.proof_log.specs.declared.derivations.Derivation.{Derivation}

-- the clause of that number, where the known ones count from 1
abbrev pub clause_named : List (List ℕ) → ℕ → Option (List ℕ)
clause_named known zero = None
clause_named known (suc k) = slice_get known k

-- each hint but the last is a unit clause with its literal unset and sets it, and the last one is false
abbrev pub LeadsToConflict : List (List ℕ) → List ℕ → List ℕ → Type 0
LeadsToConflict known set [] = ⊥
LeadsToConflict known set (h ∷ hs) =
    (clause : List ℕ) × (clause_named known h ≡ Some clause)
    × ((IsFalseUnder set clause × (hs ≡ []))
    ⊎ ((u : ℕ) × IsUnitUnder set clause u × LeadsToConflict known (set ++ u ∷ []) hs))

-- the clauses that a step may name: the formula's, then those of the earlier steps
abbrev pub known_clauses : List (List ℕ) → List DerivStep → List (List ℕ)
known_clauses formula earlier = formula ++ map (λ s. s.clause) earlier

-- from the negation of the step's clause its hints lead to a conflict
abbrev pub Follows : List (List ℕ) → List DerivStep → DerivStep → Type 0
Follows formula earlier step =
    LeadsToConflict (known_clauses formula earlier) (map negated step.clause) step.hints

-- each of the steps follows from the formula, the earlier steps and those before it
abbrev pub AllFollow : List (List ℕ) → List DerivStep → List DerivStep → Type 0
AllFollow formula earlier [] = Unit {0}
AllFollow formula earlier (s ∷ ss) = Follows formula earlier s × AllFollow formula (earlier ++ s ∷ []) ss

-- the last clause is empty
abbrev pub EndsEmpty : List DerivStep → Type 0
EndsEmpty steps = slice_get (map (λ s. s.clause) steps) (length steps - 1) ≡ Some []

-- each step follows, and the last clause is empty
abbrev pub Refutes : Formula → Derivation → Type 0
Refutes formula derivation = AllFollow formula.clauses [] derivation.steps × EndsEmpty derivation.steps
