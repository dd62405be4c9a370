-- What a solver's answers are held to: models, refutations, logs of a spent budget, quiet sets of literals, and learnt clauses.
use Rattle.std.proofs.Common.{◌≡◌, ℕ, List, [], ◌∷◌, true, false, refl, sym, arith, inl, inr}
use Rattle.proof_log.specs.declared.formulas.Formula.{Formula}
use Rattle.proof_log.specs.declared.derivations.DerivStep.{DerivStep}
use Rattle.proof_log.specs.declared.derivations.Derivation.{Derivation}
use Rattle.proof_log.specs.Literals.{lit_true}
use Rattle.proof_log.specs.Clauses.{is_set, IsNormal, IsQuietUnder}
use Rattle.proof_log.specs.Derivations.{Follows, LeadsToConflict, Refutes}
use Rattle.sat_solver.specs.declared.solving.Answer.TheVariants.{Sat, Spent}
use Rattle.sat_solver.specs.Answers.{IsAnswer}
use Rattle.sat_solver.specs.Searches.{IsQuiet}
use Rattle.sat_solver.specs.Cuts.{IsCovered}

-- x1, and not x1 or x2
abbrev two : Formula
two = record { vars = 2; clauses = (2 ∷ []) ∷ (3 ∷ 4 ∷ []) ∷ [] }

-- x1, and not x1
abbrev never : Formula
never = record { vars = 1; clauses = (2 ∷ []) ∷ (3 ∷ []) ∷ [] }

-- the two hints lead from nothing to a conflict
abbrev empty : DerivStep
empty = record { clause = []; hints = 1 ∷ 2 ∷ [] }

-- a derivation or log of these steps
abbrev of : List DerivStep → Derivation
of steps = record { steps = steps }

-- where x1 is set, x2 waits for its clause
set_with_a_waiting_unit_is_not_quiet : ¬ IsQuiet two.clauses (2 ∷ [])
unfolding is_set
set_with_a_waiting_unit_is_not_quiet quiet = (quiet 1 [] (omega arith)).1 4 (refl, refl)

-- and where x1 is set and x2 is not, that clause is false
set_with_a_false_clause_is_not_quiet : ¬ IsQuiet two.clauses (2 ∷ 5 ∷ [])
unfolding is_set
set_with_a_false_clause_is_not_quiet quiet = (quiet 1 [] (omega arith)).0 refl

-- a clause with a true literal waits for none
clause_with_a_true_literal_is_quiet : IsQuietUnder (2 ∷ 4 ∷ []) (3 ∷ 4 ∷ [])
unfolding is_set
clause_with_a_true_literal_is_quiet = ((λ none. cc), (λ u unit. let same : 4 ≡ u = cc in cc))

-- a budget of 20,000 is not spent after the first conflict, when no clause was learnt
budget_is_not_spent_by_no_clause : ¬ IsAnswer two 20000 (Spent (of []))
budget_is_not_spent_by_no_clause answer = omega (arith, answer.long)

-- the clause x1 or x2 has another literal than x1, and no reason in the cut covers it
literal_that_no_reason_covers_is_not_covered : ¬ IsCovered [] (2 ∷ 4 ∷ []) 2
unfolding is_set
literal_that_no_reason_covers_is_not_covered covered = let e = covered.others 4 refl (λ same. omega (arith, same)) in cc

-- where the cut has that other literal, it is covered
literal_whose_others_are_in_the_cut_is_covered : IsCovered (4 ∷ []) (2 ∷ 4 ∷ []) 2
unfolding is_set
literal_whose_others_are_in_the_cut_is_covered = record {
  has = refl;
  others = λ q there other. grind arith;
}

-- x1 and x2 is a model
model_is_an_answer : IsAnswer two 0 (Sat (record { values = true ∷ true ∷ [] }))
unfolding lit_true
model_is_an_answer = (refl, λ k d below. grind arith)

-- x1 alone is none
values_that_make_a_clause_false_are_no_model : ¬ IsAnswer two 0 (Sat (record { values = true ∷ false ∷ [] }))
unfolding lit_true
values_that_make_a_clause_false_are_no_model answer = let e = answer.1 1 [] (omega arith) in cc

-- nor is a value for one variable of two
values_for_some_variables_are_no_model : ¬ IsAnswer two 0 (Sat (record { values = true ∷ [] }))
values_for_some_variables_are_no_model answer = omega (arith, answer.0)

-- the empty clause follows from x1 and not x1
refutation_refutes : Refutes never (of (empty ∷ []))
unfolding is_set
refutation_refutes = (((2 ∷ [], refl, inr (2, (refl, refl), (3 ∷ [], refl, inl (refl, refl)))), tt), refl)

-- a derivation without steps refutes nothing
derivation_without_steps_refutes_nothing : ¬ Refutes never (of [])
derivation_without_steps_refutes_nothing refutes = let e = refutes.1 in cc

-- nor does one whose last clause has a literal
derivation_that_ends_with_a_literal_refutes_nothing : (hints : List ℕ) → ¬ Refutes never (of ((record { clause = 2 ∷ []; hints = hints }) ∷ []))
derivation_that_ends_with_a_literal_refutes_nothing hints refutes = let e = refutes.1 in cc

-- a hint may name no step that does not stand before: clause 3 would be that of this step itself
step_that_names_itself_does_not_follow : ¬ Follows never.clauses [] (record { clause = []; hints = 3 ∷ [] })
step_that_names_itself_does_not_follow (clause, named, rest) = cc

-- a clause with two literals that are not false is neither unit nor false
hint_with_two_open_literals_leads_to_no_conflict : ¬ LeadsToConflict ((2 ∷ 4 ∷ []) ∷ []) [] (1 ∷ [])
unfolding is_set
hint_with_two_open_literals_leads_to_no_conflict (clause, named, inl (falsified, last)) =
    let same : (2 ∷ 4 ∷ []) ≡ clause = cc in let e = rw (sym same) at falsified in cc
hint_with_two_open_literals_leads_to_no_conflict (clause, named, inr (u, unit, rest)) =
    let same : (2 ∷ 4 ∷ []) ≡ clause = cc in let e = rw (sym same) at unit.0 in cc

-- no clause comes before this one in the normal form: its literals stand by rising variables, each once
normal_clause_has_rising_variables : IsNormal (3 ∷ 4 ∷ 7 ∷ [])
normal_clause_has_rising_variables = grind arith

-- x2 or x1
clause_with_falling_variables_is_not_normal : ¬ IsNormal (4 ∷ 2 ∷ [])
clause_with_falling_variables_is_not_normal normal = omega (arith, normal.0.0)

-- x1 or not x1
clause_with_both_literals_of_a_variable_is_not_normal : ¬ IsNormal (2 ∷ 3 ∷ [])
clause_with_both_literals_of_a_variable_is_not_normal normal = omega (arith, normal.0.0)
