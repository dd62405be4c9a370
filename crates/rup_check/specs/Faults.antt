-- The first fault of a derivation, step by step and hint by hint.
use Rattle.std.specs.Prelude.{◌≡◌, ℕ, ◌+◌, Option, Some, None, List, [], ◌∷◌, ◌++◌, map, length}
use Rattle.proof_log.specs.Literals.{negated}
use Rattle.proof_log.specs.Derivations.{clause_named, known_clauses, EndsEmpty}
use Rattle.proof_log.specs.Effects.{effect_of}
use Rattle.proof_log.specs.declared.effects.Effect.TheVariants.{Falsified, Sets, Neither}
use Rattle.proof_log.specs.declared.formulas.Formula.{Formula}
use Rattle.proof_log.specs.declared.derivations.DerivStep.{DerivStep}
use Rattle.proof_log.specs.declared.derivations.Derivation.{Derivation}
use Rattle.rup_check.specs.declared.faults.CheckFault.{CheckFault}
use Rattle.rup_check.specs.declared.faults.CheckFault.TheVariants.{HintMissing, HintNotUnit, NoConflict, NotEmpty, Memory}

-- after a false hint no hint may stand: the first one, at that place, is the fault
abbrev pub fault_after_false : List (List ℕ) → ℕ → List ℕ → ℕ → Option CheckFault
fault_after_false known step [] place = None
fault_after_false known step (h ∷ hs) place =
    elim (clause_named known h) [
      | None ↦ Some (HintMissing step)
      | Some clause ↦ Some (HintNotUnit step place)
    ]

-- the first fault of a step's hints from that place on, where these literals are set
abbrev pub hints_fault : List (List ℕ) → ℕ → List ℕ → List ℕ → ℕ → Option CheckFault
hints_fault known step set [] place = Some (NoConflict step)
hints_fault known step set (h ∷ hs) place =
    elim (clause_named known h) [
      | None ↦ Some (HintMissing step)
      | Some clause ↦ elim (effect_of set clause) [
        | Falsified ↦ fault_after_false known step hs (place + 1)
        | Sets u ↦ hints_fault known step (set ++ u ∷ []) hs (place + 1)
        | Neither ↦ Some (HintNotUnit step place)
      ]
    ]

-- the fault of a step of that number: its hints begin with the negation of its clause
abbrev pub step_fault : List (List ℕ) → List DerivStep → DerivStep → ℕ → Option CheckFault
step_fault formula earlier s number =
    hints_fault (known_clauses formula earlier) number (map negated s.clause) s.hints 1

-- the first fault of the steps that stand after the earlier ones
abbrev pub steps_fault : List (List ℕ) → List DerivStep → List DerivStep → Option CheckFault
steps_fault formula earlier [] = None
steps_fault formula earlier (s ∷ ss) =
    elim (step_fault formula earlier s (length earlier + 1)) [
      | Some fault ↦ Some fault
      | None ↦ steps_fault formula (earlier ++ s ∷ []) ss
    ]

-- the first fault is a step's, or where no step has one, that the last clause is not empty
abbrev pub IsFirstFault : Formula → Derivation → CheckFault → Type 0
IsFirstFault formula derivation NotEmpty =
    (steps_fault formula.clauses [] derivation.steps ≡ None) × (EndsEmpty derivation.steps → ⊥)
IsFirstFault formula derivation (HintMissing step) =
    steps_fault formula.clauses [] derivation.steps ≡ Some (HintMissing step)
IsFirstFault formula derivation (HintNotUnit step place) =
    steps_fault formula.clauses [] derivation.steps ≡ Some (HintNotUnit step place)
IsFirstFault formula derivation (NoConflict step) =
    steps_fault formula.clauses [] derivation.steps ≡ Some (NoConflict step)
IsFirstFault formula derivation Memory = ⊥
