-- What certificates speak of, what they list, and which faults their derivations have.
use Rattle.std.proofs.Common.{◌≡◌, ℕ, true, false, List, [], ◌∷◌, Some, None, refl, arith}
use Rattle.proof_log.specs.Clauses.{is_set}
use Rattle.proof_log.specs.declared.formulas.Formula.{Formula}
use Rattle.proof_log.specs.declared.derivations.DerivStep.{DerivStep}
use Rattle.proof_log.specs.declared.derivations.Derivation.{Derivation}
use Rattle.rup_check.specs.declared.faults.CheckFault.TheVariants.{HintMissing, HintNotUnit, NoConflict, NotEmpty}
use Rattle.rup_check.specs.Faults.{IsFirstFault, steps_fault}
use Rattle.net_model.specs.declared.invariants.InvClause.{InvClause}
use Rattle.query_model.specs.declared.keys.Coding.TheVariants.{Rows, Primes}
use Rattle.verdict_types.specs.declared.outcomes.Proof.TheVariants.{Single, Fixed, Depth}
use Rattle.verdict_types.specs.declared.outcomes.Verdict.TheVariants.{Justified, Undecided}
use Rattle.verdict_types.specs.declared.outcomes.Cause.{Cause}
use Rattle.cert_values.specs.declared.certs.Cert.{Cert}
use Rattle.cert_values.specs.Versions.{coding_of, version_for}
use Rattle.cert_values.specs.Certs.{HasBases, IsComplete, justified_from, listed_numbers}

-- version 1 speaks of rows
first_version_speaks_of_rows : coding_of 1 ≡ Rows
first_version_speaks_of_rows = refl

-- version 2 speaks of prime cubes
second_version_speaks_of_prime_cubes : coding_of 2 ≡ Primes
second_version_speaks_of_prime_cubes = refl

-- and so does version 3
third_version_speaks_of_prime_cubes : coding_of 3 ≡ Primes
third_version_speaks_of_prime_cubes = refl

-- so their derivations are not those of version 1
second_version_is_not_checked_as_the_first : ¬ (coding_of 2 ≡ coding_of 1)
second_version_is_not_checked_as_the_first same = cc

-- register `reg` is 1, or register 1 is 0
abbrev clause : ℕ → InvClause
clause reg = record { lits = (record { reg = reg; value = true }) ∷ (record { reg = 1; value = false }) ∷ [] }

-- a clause of three literals
abbrev long : InvClause
long = record { lits = (record { reg = 0; value = true }) ∷ (record { reg = 1; value = false }) ∷ (record { reg = 2; value = false }) ∷ [] }

-- where a kept clause has more than two literals, version 3 is written
long_clause_is_written_in_version_3 : version_for (clause 0 ∷ long ∷ []) ≡ 3
long_clause_is_written_in_version_3 = refl

-- where all are short, version 2 is written
short_clauses_are_written_in_version_2 : version_for (clause 0 ∷ clause 2 ∷ []) ≡ 2
short_clauses_are_written_in_version_2 = refl

-- a derivation without steps
abbrev none : Derivation
none = record { steps = [] }

-- a proof at depth 2 has two base derivations
proof_without_a_base_derivation_is_refused : ¬ HasBases (Depth 2 (none ∷ []) none)
proof_without_a_base_derivation_is_refused has = omega (arith, has.1)

-- with both it is complete
proof_with_its_base_derivations_is_taken : HasBases (Depth 2 (none ∷ none ∷ []) none)
proof_with_its_base_derivations_is_taken = (omega arith, refl)

-- no depth is above 64
proof_at_depth_65_is_refused : (base : List Derivation) → ¬ HasBases (Depth 65 base none)
proof_at_depth_65_is_refused base has = omega (arith, has.0)

-- the justified claims are listed by their numbers, which count from 1
justified_claims_are_listed_by_their_numbers : (cause : Cause)
    → listed_numbers (justified_from 1 (Justified Single ∷ Undecided cause ∷ Justified Fixed ∷ [])) ≡ 1 ∷ 3 ∷ []
justified_claims_are_listed_by_their_numbers cause = refl

-- a certificate with a kept clause that has no derivations
kept_clause_without_derivations_is_refused : ¬ IsComplete (record { version = 2; depth = 1; kept = clause 0 ∷ []; proofs = []; pairs = [] })
kept_clause_without_derivations_is_refused complete = omega (arith, complete.as_many)

-- and one that keeps a clause at depth 0, where nothing shows that it holds from reset
kept_clause_at_depth_0_is_refused : (cert : Cert) → cert.depth ≡ 0 → cert.kept ≡ clause 0 ∷ [] → ¬ IsComplete cert
kept_clause_at_depth_0_is_refused cert at kept complete = let e = complete.none at in cc

-- x1, not x1, x1 or x2
abbrev formula : Formula
formula = record { vars = 2; clauses = (2 ∷ []) ∷ (3 ∷ []) ∷ (2 ∷ 4 ∷ []) ∷ [] }

-- a step of this clause and these hints
abbrev step : List ℕ → List ℕ → DerivStep
step c hints = record { clause = c; hints = hints }

-- hints count from 1, and so do the steps
hint_of_no_clause_is_the_fault : steps_fault formula.clauses [] (step [] (9 ∷ []) ∷ []) ≡ Some (HintMissing 1)
hint_of_no_clause_is_the_fault = refl

-- the clause of the first step would be number 4, and a step may not name its own
step_that_names_itself_is_the_fault : steps_fault formula.clauses [] (step [] (4 ∷ []) ∷ []) ≡ Some (HintMissing 1)
step_that_names_itself_is_the_fault = refl

-- x1 or x2 has two literals that are not false, so the first hint of step 1 is wrong
hint_with_two_open_literals_is_the_fault : steps_fault formula.clauses [] (step [] (3 ∷ 1 ∷ 2 ∷ []) ∷ []) ≡ Some (HintNotUnit 1 1)
unfolding is_set
hint_with_two_open_literals_is_the_fault = refl

-- x1 alone is no conflict
step_without_a_conflict_is_the_fault : steps_fault formula.clauses [] (step [] (1 ∷ []) ∷ []) ≡ Some (NoConflict 1)
unfolding is_set
step_without_a_conflict_is_the_fault = refl

-- after the conflict of the first two hints no third one may stand
hint_after_a_conflict_is_the_fault : steps_fault formula.clauses [] (step [] (1 ∷ 2 ∷ 1 ∷ []) ∷ []) ≡ Some (HintNotUnit 1 3)
unfolding is_set
hint_after_a_conflict_is_the_fault = refl

-- two hints that lead to a conflict
refutation_has_no_fault : steps_fault formula.clauses [] (step [] (1 ∷ 2 ∷ []) ∷ []) ≡ None
unfolding is_set
refutation_has_no_fault = refl

-- a derivation whose last clause is not empty
derivation_that_does_not_end_empty_is_a_fault : IsFirstFault formula (record { steps = step (4 ∷ []) (1 ∷ 2 ∷ []) ∷ [] }) NotEmpty
unfolding is_set
derivation_that_does_not_end_empty_is_a_fault = (refl, λ ends. cc)
