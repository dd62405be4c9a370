-- Where every variable is set and no clause is false, the set literals are a model.
use Rattle.std.proofs.Common.{◌≡◌, ℕ, ◌+◌, ◌-◌, ◌*◌, ◌/◌, ◌%◌, ◌≤◌, Bool, true, false, not, eqb, List, [], ◌∷◌, ◌++◌, map, length, get_or, refl, sym}
use Rattle.std.proofs.Common.{ap, ◌∙◌, inl, inr, ◌⊎◌, arith}
use Rattle.std.specs.List.{All, IsDistinct}
use Rattle.std.proofs.lemmas.Bool.{false≢true, cases_eq, cases_lt, or_cases, or_left, or_right, eqb-true, false_from_ne_true, both_ways}
use Rattle.std.proofs.lemmas.List.{get_or_push, get_or_append_left, length_push}
use Rattle.proof_log.specs.Literals.{lit_var, lit_true, literal, negated, InVars}
use Rattle.proof_log.specs.Clauses.{is_set, clause_true, open_literals, IsQuietUnder}
use Rattle.proof_log.specs.Formulas.{value_in}
use Rattle.proof_log.proofs.LiteralLemmas.{lit_true_even, lit_true_odd, negated_even, negated_odd}
use Rattle.proof_log.proofs.Members.{is_set-nil, is_set-cons, is_set_first, mem_filter, distinct_var, not_true_false, member_from_All}
use Rattle.sat_solver.specs.Searches.{AllInVars, IsQuiet, AllSet}

-- the values so far are those of the set literals
pub record ValuesOf (set : List ℕ) (vars : ℕ) (values : List Bool) : Type 0 where
  pub long : length values ≡ vars
  pub each : (var : ℕ) → 1 ≤ var → var ≤ vars → value_in values var ≡ is_set set (2 * var)

pub values_none : (set : List ℕ) → ValuesOf set 0 []
values_none set = record { long = refl; each = λ var low high. absurd (omega arith) }

pub values_more : (set : List ℕ) (n l : ℕ) (values : List Bool) (b : Bool) → ValuesOf set n values → l ≡ 2 * (n + 1) → b ≡ is_set set l
    → ValuesOf set (n + 1) (values ++ b ∷ [])
values_more set n l values b v l_is b_is = record {
  long = omega (arith, length_push values b, v.long);
  each = λ var low high. elim (cases_lt var (n + 1)) [
    | inl lt ↦ get_or_append_left values (b ∷ []) false (var - 1) (omega (arith, v.long)) ∙ v.each var low (omega arith)
    | inr ge ↦
        let e : var ≡ n + 1 = omega arith in
        get_or_push values b false (var - 1) (omega (arith, v.long)) ∙ b_is ∙ ap (is_set set) (l_is ∙ ap (λ x. 2 * x) (sym e))
  ];
}

-- a set literal is true
lit_true-set : (set : List ℕ) (vars : ℕ) (values : List Bool) (l : ℕ) → IsDistinct eqb (map lit_var set) → ValuesOf set vars values → InVars vars l
    → is_set set l ≡ true → lit_true (value_in values) l ≡ true
lit_true-set set vars values l d v here h =
    elim (cases_eq (l % 2) 0) [
      | inl even ↦
          let e : l ≡ 2 * (l / 2) = omega arith in
          lit_true_even (value_in values) l even ∙ v.each (l / 2) (omega (arith, here.0)) (omega (arith, here.1)) ∙ ap (is_set set) (sym e) ∙ h
      | inr odd ↦
          let absent : is_set set (2 * (l / 2)) ≡ false =
          false_from_ne_true _ (λ t. let one = distinct_var set d (2 * (l / 2)) l t h (omega arith) in absurd (odd (omega arith))) in
          lit_true_odd (value_in values) l odd ∙ ap not (v.each (l / 2) (omega (arith, here.0)) (omega (arith, here.1)) ∙ absent)
    ]

-- one of a variable's literals is set
set_either : (vars : ℕ) (set : List ℕ) (l : ℕ) → AllSet vars set → InVars vars l → (is_set set l ≡ true) ⊎ (is_set set (negated l) ≡ true)
set_either vars set l all here =
    elim (cases_eq (l % 2) 0) [
      | inl even ↦
          let p : literal (l / 2) true ≡ l = omega arith in
          let n : literal (l / 2) false ≡ negated l = let m = negated_even l even in omega arith in
          elim (all (l / 2) (omega (arith, here.0)) (omega (arith, here.1))) [
            | inl t ↦ inl (ap (is_set set) (sym p) ∙ t)
            | inr f ↦
                inr (ap (is_set set) (sym n) ∙ f)
          ]
      | inr odd ↦
          let p : literal (l / 2) true ≡ negated l = let m = negated_odd l odd in omega arith in
          let n : literal (l / 2) false ≡ l = omega arith in
          elim (all (l / 2) (omega (arith, here.0)) (omega (arith, here.1))) [
            | inl t ↦ inr (ap (is_set set) (sym p) ∙ t)
            | inr f ↦
                inl (ap (is_set set) (sym n) ∙ f)
          ]
    ]

clause_true-member : (v : ℕ → Bool) (c : List ℕ) (l : ℕ) → is_set c l ≡ true → lit_true v l ≡ true → clause_true v c ≡ true
clause_true-member v [] l h t = absurd (false≢true (sym (is_set-nil l) ∙ h))
clause_true-member v (x ∷ xs) l h t =
    elim (or_cases (eqb x l) (is_set xs l) (sym (is_set-cons x xs l) ∙ h)) [
      | inl e ↦ or_left (lit_true v x) (clause_true v xs) (ap (lit_true v) (eqb-true x l e) ∙ t)
      | inr r ↦ or_right (lit_true v x) (clause_true v xs) (clause_true-member v xs l r t)
    ]

-- a clause that is not false has a literal that is not
open_first : (o : List ℕ) → (o ≡ [] → ⊥) → (l : ℕ) × (is_set o l ≡ true)
open_first [] h = absurd (h refl)
open_first (x ∷ xs) h = (x, is_set_first x xs)

pub model_from_set : (vars : ℕ) (clauses : List (List ℕ)) (set : List ℕ) (values : List Bool) → AllInVars vars clauses → IsQuiet clauses set
    → AllSet vars set → IsDistinct eqb (map lit_var set) → ValuesOf set vars values → All (λ c. clause_true (value_in values) c ≡ true) clauses
model_from_set vars clauses set values in_vars quiet all d v = λ k c h. one (get_or clauses k c) (in_vars k c h) (quiet k c h)
  where
    one : (c : List ℕ) → All (InVars vars) c → IsQuietUnder set c → clause_true (value_in values) c ≡ true
    one c inside q =
        let w = open_first (open_literals set c) q.0 in
        let m = mem_filter (λ l. not (is_set set (negated l))) c w.0 w.1 in
        let here = member_from_All (InVars vars) c w.0 inside m.0 in
        elim (set_either vars set w.0 all here) [
          | inl t ↦ clause_true-member (value_in values) c w.0 m.0 (lit_true-set set vars values w.0 d v here t)
          | inr f ↦ absurd (both_ways _ (not_true_false _ m.1) f)
        ]
