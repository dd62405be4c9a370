-- The clause that a number names.
use Rattle.std.proofs.Common.{◌≡◌, ℕ, zero, suc, ◌+◌, ◌-◌, ◌<◌, ◌≤◌, Some, None, List, [], ◌∷◌, ◌++◌, map, length, get_or, refl, ap, ◌∙◌, arith}
use Rattle.std.specs.List.{slice_get}
use Rattle.std.proofs.lemmas.Option.{slice_get_read, slice_get-map, slice_get_past}
use Rattle.std.proofs.lemmas.List.{length-map, length-append}
use Rattle.std.specs.Option.{option_map}
use Rattle.proof_log.specs.Derivations.{clause_named, known_clauses}
use Rattle.proof_log.specs.declared.derivations.DerivStep.{DerivStep}

pub slice_get-append_left : {X : Type 0} (xs ys : List X) (i : ℕ) → i < length xs → slice_get (xs ++ ys) i ≡ slice_get xs i
slice_get-append_left [] ys i h = absurd (omega arith)
slice_get-append_left (x ∷ xs) ys zero h = refl
slice_get-append_left (x ∷ xs) ys (suc i) h = slice_get-append_left xs ys i (omega arith)

pub slice_get-append_right : {X : Type 0} (xs ys : List X) (i j : ℕ) → i ≡ length xs + j → slice_get (xs ++ ys) i ≡ slice_get ys j
slice_get-append_right [] ys i j h = ap (slice_get ys) (omega arith)
slice_get-append_right (x ∷ xs) ys zero j h = absurd (omega arith)
slice_get-append_right (x ∷ xs) ys (suc i) j h = slice_get-append_right xs ys i j (omega arith)

pub clause_named_place : (known : List (List ℕ)) (n : ℕ) → (n ≡ 0 → ⊥) → clause_named known n ≡ slice_get known (n - 1)
clause_named_place known zero h = absurd (h refl)
clause_named_place known (suc k) h = ap (slice_get known) (omega arith)

-- a number of a clause of the formula
pub named_formula : (formula : List (List ℕ)) (earlier : List DerivStep) (n : ℕ) (c : List ℕ) → (n ≡ 0 → ⊥) → n - 1 < length formula
    → c ≡ get_or formula (n - 1) c → clause_named (known_clauses formula earlier) n ≡ Some c
named_formula formula earlier n c nonzero h e =
    clause_named_place (known_clauses formula earlier) n nonzero
    ∙ slice_get-append_left formula (map (λ s. s.clause) earlier) (n - 1) h
    ∙ slice_get_read formula _ (n - 1) c refl h e

-- a number of a step's clause
pub named_step : (formula : List (List ℕ)) (earlier : List DerivStep) (n : ℕ) (s : DerivStep) → (n ≡ 0 → ⊥) → length formula ≤ n - 1
    → n - 1 - length formula < length earlier → s ≡ get_or earlier (n - 1 - length formula) s → clause_named (known_clauses formula earlier) n ≡ Some
    s.clause
named_step formula earlier n s nonzero low h e =
    clause_named_place (known_clauses formula earlier) n nonzero
    ∙ slice_get-append_right formula (map (λ s. s.clause) earlier) (n - 1) (n - 1 - length formula) (omega arith)
    ∙ slice_get-map (λ s. s.clause) earlier (n - 1 - length formula)
    ∙ ap (option_map (λ s. s.clause)) (slice_get_read earlier _ _ s refl h e)

pub named_none : (formula : List (List ℕ)) (earlier : List DerivStep) (n : ℕ) → (n ≡ 0 → ⊥) → length formula + length earlier ≤ n - 1
    → clause_named (known_clauses formula earlier) n ≡ None
named_none formula earlier n nonzero h =
    clause_named_place (known_clauses formula earlier) n nonzero
    ∙ slice_get_past (known_clauses formula earlier) (n - 1) (omega (
      arith,
      length-append formula (map (λ s. s.clause) earlier),
      length-map earlier (λ s. s.clause),
    ))
