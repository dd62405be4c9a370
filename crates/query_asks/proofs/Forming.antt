-- The derivations of the solver are in form.
use Rattle.std.proofs.Common.{◌≡◌, ℕ, zero, suc, ◌-◌, ◌^◌, ◌<◌, ◌≤◌, List, [], ◌∷◌, ◌++◌, length, Some, subst, sym, arith, inl, inr, All}
use Rattle.std.proofs.lemmas.List.Elements.{All-nil, All-cons}
use Rattle.proof_log.specs.Literals.{InVars}
use Rattle.proof_log.specs.Derivations.{clause_named, known_clauses, LeadsToConflict, AllFollow}
use Rattle.proof_log.specs.declared.formulas.Formula.{Formula}
use Rattle.proof_log.specs.declared.derivations.DerivStep.{DerivStep}
use Rattle.proof_log.specs.declared.derivations.Derivation.{Derivation}
use Rattle.sat_solver.specs.Answers.{IsRefutation}
use Rattle.verdict_types.specs.Forms.{IsInForm}

-- the number of a known clause is not 0
counts_from_1 : (known : List (List ℕ)) (h : ℕ) (clause : List ℕ) → clause_named known h ≡ Some clause → 1 ≤ h
counts_from_1 known zero clause named = absurd cc
counts_from_1 known (suc k) clause named = omega arith

-- what leads to a conflict names known clauses alone
hints_named : (known : List (List ℕ)) (set hints : List ℕ) → LeadsToConflict known set hints → All (λ h. 1 ≤ h) hints
hints_named known set [] leads = absurd leads
hints_named known set (h ∷ hs) leads =
    All-cons (λ n. 1 ≤ n) h hs (counts_from_1 known h leads.0 leads.1)
    (elim leads.2 [
      | inl last ↦ subst (All (λ n. 1 ≤ n)) (sym last.1) (All-nil (λ n. 1 ≤ n))
      | inr more ↦ hints_named known (set ++ more.0 ∷ []) hs more.2
    ])

-- so do all steps that follow
steps_named : (formula : List (List ℕ)) (earlier steps : List DerivStep) → AllFollow formula earlier steps → All (λ (s : DerivStep). All (λ h. 1 ≤ h) s.hints) steps
steps_named formula earlier [] follow = All-nil (λ (s : DerivStep). All (λ h. 1 ≤ h) s.hints)
steps_named formula earlier (s ∷ steps) follow =
    All-cons (λ (x : DerivStep). All (λ h. 1 ≤ h) x.hints) s steps (hints_named (known_clauses formula earlier) _ s.hints follow.0)
    (steps_named formula (earlier ++ s ∷ []) steps follow.1)

-- a literal over the variables of a formula is one over all variables
of_any_var : (vars l : ℕ) → vars < 2 ^ 31 → InVars vars l → InVars (2 ^ 31 - 1) l
of_any_var vars l few is = (is.0, omega (arith, is.1, few))

-- a refutation is in form
pub refutation_in_form : (formula : Formula) (budget : ℕ) (derivation : Derivation) → formula.vars < 2 ^ 31 → length derivation.steps < 2 ^ 63
    → IsRefutation formula budget derivation → IsInForm derivation
refutation_in_form formula budget derivation few short is =
    record {
      few = short;
      steps = λ k s low. record {
        normal = is.normal k s low;
        in_vars = λ i l within. of_any_var formula.vars _ few (is.in_vars k s low i l within);
        hints = steps_named formula.clauses [] derivation.steps is.refutes.0 k s low;
      };
    }
