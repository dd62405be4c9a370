-- A log of new clauses over v variables has fewer than 3 ^ v of them.
use Rattle.std.proofs.Common.{◌≡◌, ℕ, zero, suc, ◌+◌, ◌*◌, ◌/◌, ◌%◌, ◌^◌, ◌<◌, ◌≤◌, true, false, cond, eqb, List, [], ◌∷◌, ◌++◌, map, refl, sym, ap}
use Rattle.std.proofs.Common.{◌∙◌, subst, inl, inr, arith}
use Rattle.std.specs.List.{list_any, IsDistinct, AllByRecursion}
use Rattle.std.proofs.lemmas.Bool.{false≢true, cases_Bool, or_cases, or_left, or_from, eqb-true, eq-eqb, ne_eqb, cases_eq, cond-true, cond-false, both_ways}
use Rattle.std.proofs.lemmas.List.{append-nil, append_assoc, map-append, length-map}
use Rattle.std.proofs.lemmas.List.Elements.{recursion_from_All}
use Rattle.std.proofs.lemmas.Map.Steps.{length-le_from_distinct_below}
use Rattle.std.proofs.Math.Nat.{pow-succ', pow-zero}
use Rattle.proof_log.specs.Literals.{lit_var, InVars}
use Rattle.proof_log.specs.Clauses.{is_set, IsQuietUnder}
use Rattle.proof_log.specs.NewClauses.{IsNewBy, AllNew, IsLogged, IsSpentLog}
use Rattle.proof_log.specs.declared.formulas.Formula.{Formula}
use Rattle.proof_log.specs.declared.derivations.DerivStep.{DerivStep}
use Rattle.proof_log.specs.declared.derivations.Derivation.{Derivation}
use Rattle.proof_log.proofs.Members.{is_set-nil, is_set-cons, distinct_var, normal_distinct, member_from_All}
use Rattle.proof_log.proofs.Assigning.{IsDistinct-push}
use Rattle.sat_solver.proofs.OpenClauses.{open_only, false_from_FalseBy}

-- 0 where the variable does not occur, 1 for it and 2 for its complement
abbrev digit : List ℕ → ℕ → ℕ
digit c x = cond (is_set c (2 * x)) 1 (cond (is_set c (2 * x + 1)) 2 0)

-- a clause over the variables 1 to n as a number of n digits of base 3
abbrev code : List ℕ → ℕ → ℕ
code c zero = 0
code c (suc n) = digit c (suc n) + 3 * code c n

digit_neither : (c : List ℕ) (x : ℕ) → is_set c (2 * x) ≡ false → is_set c (2 * x + 1) ≡ false → digit c x ≡ 0
digit_neither c x f g = cond-false _ _ _ f ∙ cond-false _ _ _ g

digit_of_var : (c : List ℕ) (x : ℕ) → is_set c (2 * x) ≡ true → digit c x ≡ 1
digit_of_var c x t = cond-true _ _ _ t

digit_of_complement : (c : List ℕ) (x : ℕ) → is_set c (2 * x) ≡ false → is_set c (2 * x + 1) ≡ true → digit c x ≡ 2
digit_of_complement c x f t = cond-false _ _ _ f ∙ cond-true _ _ _ t

digit-lt : (c : List ℕ) (x : ℕ) → digit c x < 3
digit-lt c x =
    elim (cases_Bool (is_set c (2 * x))) [
      | inl t ↦ omega (arith, digit_of_var c x t)
      | inr f ↦ elim (cases_Bool (is_set c (2 * x + 1))) [
        | inl t ↦ omega (arith, digit_of_complement c x f t)
        | inr g ↦ omega (arith, digit_neither c x f g)
      ]
    ]

var_from_digit : (c : List ℕ) (x : ℕ) → digit c x ≡ 1 → is_set c (2 * x) ≡ true
var_from_digit c x h =
    elim (cases_Bool (is_set c (2 * x))) [
      | inl t ↦ t
      | inr f ↦ elim (cases_Bool (is_set c (2 * x + 1))) [
        | inl t ↦ absurd (omega (arith, digit_of_complement c x f t))
        | inr g ↦ absurd (omega (arith, digit_neither c x f g))
      ]
    ]

complement_from_digit : (c : List ℕ) (x : ℕ) → digit c x ≡ 2 → is_set c (2 * x + 1) ≡ true
complement_from_digit c x h =
    elim (cases_Bool (is_set c (2 * x))) [
      | inl t ↦ absurd (omega (arith, digit_of_var c x t))
      | inr f ↦ elim (cases_Bool (is_set c (2 * x + 1))) [
        | inl t ↦ t
        | inr g ↦ absurd (omega (arith, digit_neither c x f g))
      ]
    ]

code-lt : (c : List ℕ) (n : ℕ) → code c n < 3 ^ n
code-lt c zero = omega (arith, pow-zero 3)
code-lt c (suc n) = omega (arith, digit-lt c (suc n), code-lt c n, pow-succ' 3 n)

code-nil : (n : ℕ) → code [] n ≡ 0
code-nil zero = refl
code-nil (suc n) =
    let d : digit [] (suc n) ≡ 0 = cond-false _ _ _ (is_set-nil (2 * suc n)) ∙ cond-false _ _ _ (is_set-nil (2 * suc n + 1)) in
    omega (arith, d, code-nil n)

-- clauses of one number have the same digits
code_digits : (c d : List ℕ) (n : ℕ) → code c n ≡ code d n → (x : ℕ) → 1 ≤ x → x ≤ n → digit c x ≡ digit d x
code_digits c d zero e x low high = absurd (omega arith)
code_digits c d (suc n) e x low high =
    let k : digit c (suc n) + 3 * code c n ≡ digit d (suc n) + 3 * code d n = e in
    let lc = digit-lt c (suc n) in let ld = digit-lt d (suc n) in
    let same : digit c (suc n) ≡ digit d (suc n) = omega arith in
    let rest : code c n ≡ code d n = omega arith in
    elim (cases_eq x (suc n)) [
      | inl q ↦ let P : ℕ → Type 0 = λ y. digit c y ≡ digit d y in subst P (sym q) same
      | inr ne ↦ code_digits c d n rest x low (omega arith)
    ]

-- the literals of a clause are those of any clause of its number
member_from_code : (c d : List ℕ) (v : ℕ) → code c v ≡ code d v → IsDistinct eqb (map lit_var d) → ((l : ℕ) → is_set d l ≡ true → InVars v l)
    → (l : ℕ) → is_set d l ≡ true → is_set c l ≡ true
member_from_code c d v e dist in_vars l h =
    let b = in_vars l h in
    let x = l / 2 in
    let low : 1 ≤ x = omega arith in
    let high : x ≤ v = omega arith in
    let same = code_digits c d v e x low high in
    elim (cases_eq (l % 2) 0) [
      | inl even ↦
          let is : l ≡ 2 * x = omega arith in
          ap (is_set c) is ∙ var_from_digit c x (same ∙ digit_of_var d x (ap (is_set d) (sym is) ∙ h))
      | inr odd ↦
          let is : l ≡ 2 * x + 1 = omega arith in
          let there : is_set d (2 * x + 1) ≡ true = ap (is_set d) (sym is) ∙ h in
          let absent : is_set d (2 * x) ≡ false = elim (cases_Bool (is_set d (2 * x))) [
            | inl t ↦ let one = distinct_var d dist (2 * x) (2 * x + 1) t there (omega arith) in absurd (omega arith)
            | inr f ↦ f
          ] in
          ap (is_set c) is ∙ complement_from_digit c x (same ∙ digit_of_complement d x absent there)
    ]

-- no clause within a new one is quiet
within_new : (known : List (List ℕ)) (c d : List ℕ) (u : ℕ) (set : List ℕ) → IsNewBy known c u set → IsQuietUnder set d
    → IsDistinct eqb (map lit_var d) → ((l : ℕ) → is_set d l ≡ true → is_set c l ≡ true) → ⊥
within_new known c d u set new quiet dist sub =
    elim (cases_Bool (is_set d u)) [
      | inl t ↦ quiet.1 u (open_only set d u dist t (λ l m ne. new.others l (sub l m) ne) new.complement_unset, new.unset)
      | inr f ↦ quiet.0 (false_from_FalseBy set d (λ l m. new.others l (sub l m) (λ e. both_ways _ f (ap (is_set d) (sym e) ∙ m))))
    ]

abbrev codes : ℕ → List DerivStep → List ℕ
codes v steps = map (λ s. code s.clause v) steps

no_code : (v : ℕ) (known : List (List ℕ)) (c : List ℕ) (u : ℕ) (set : List ℕ) → IsNewBy known c u set → (es : List DerivStep)
    → AllByRecursion (IsQuietUnder set) (map (λ s. s.clause) es) → AllByRecursion (λ s. IsLogged v s.clause) es → list_any (λ x. eqb x (code c v))
    (codes v es) ≡ false
no_code v known c u set new [] quiet logged = refl
no_code v known c u set new (e ∷ es) quiet logged =
    let dist = normal_distinct e.clause logged.0.normal in
    or_from _ _
    (ne_eqb _ _ (λ same. within_new known c e.clause u set new quiet.0 dist
    (member_from_code c e.clause v (sym same) dist (λ l m. member_from_All (InVars v) e.clause l logged.0.in_vars m))))
    (no_code v known c u set new es quiet.1 logged.1)

rec_right : {X : Type 0} (P : X → Type 0) (xs ys : List X) → AllByRecursion P (xs ++ ys) → AllByRecursion P ys
rec_right P [] ys a = a
rec_right P (x ∷ xs) ys a = rec_right P xs ys a.1

rec_push : {X : Type 0} (P : X → Type 0) (xs : List X) (y : X) → AllByRecursion P xs → P y → AllByRecursion P (xs ++ y ∷ [])
rec_push P [] y a p = (p, tt)
rec_push P (x ∷ xs) y a p = (a.0, rec_push P xs y a.1 p)

code_positive : (v : ℕ) (c : List ℕ) → IsLogged v c → code c v ≡ 0 → ⊥
code_positive v [] logged e = logged.some refl
code_positive v (x ∷ xs) logged e =
    let there = member_from_code [] (x ∷ xs) v (code-nil v ∙ sym e) (normal_distinct (x ∷ xs) logged.normal)
    (λ l m. member_from_All (InVars v) (x ∷ xs) l logged.in_vars m) x (is_set-cons x xs x ∙ or_left _ _ (eq-eqb x x refl)) in
    false≢true (sym (is_set-nil x) ∙ there)

all_distinct : (v : ℕ) (formula : List (List ℕ)) (steps earlier : List DerivStep) → AllNew formula earlier steps
    → AllByRecursion (λ s. IsLogged v s.clause) earlier → AllByRecursion (λ s. IsLogged v s.clause) steps → IsDistinct eqb (0 ∷ codes v earlier)
    → IsDistinct eqb (0 ∷ codes v (earlier ++ steps))
all_distinct v formula [] earlier new before now d =
    let P : List DerivStep → Type 0 = λ es. IsDistinct eqb (0 ∷ codes v es) in subst P (sym (append-nil earlier)) d
all_distinct v formula (s ∷ ss) earlier new before now d =
    let P : List DerivStep → Type 0 = λ es. IsDistinct eqb (0 ∷ codes v es) in
    let Q : List ℕ → Type 0 = λ xs. IsDistinct eqb (0 ∷ xs) in
    let w = new.0 in
    let quiet = rec_right (IsQuietUnder w.1) (formula) (map (λ s. s.clause) earlier) (recursion_from_All (IsQuietUnder w.1) _ w.2.quiet) in
    let fresh = or_from _ _ (ne_eqb 0 (code s.clause v) (λ e. code_positive v s.clause now.0 (sym e)))
    (no_code v _ s.clause w.0 w.1 w.2 earlier quiet before) in
    let longer = subst Q (sym (map-append (λ t. code t.clause v) earlier (s ∷ []))) (IsDistinct-push (0 ∷ codes v earlier) (code s.clause v) d fresh) in
    subst P (append_assoc earlier (s ∷ []) ss)
    (all_distinct v formula ss (earlier ++ s ∷ []) new.1 (rec_push (λ t. IsLogged v t.clause) earlier s before now.0) now.1 longer)

codes_below : (v : ℕ) (steps : List DerivStep) (q : ℕ) → list_any (eqb q) (codes v steps) ≡ true → q < 3 ^ v
codes_below v [] q h = absurd (false≢true h)
codes_below v (s ∷ ss) q h =
    elim (or_cases (eqb q (code s.clause v)) (list_any (eqb q) (codes v ss)) h) [
      | inl e ↦ let same = eqb-true q _ e in omega (arith, code-lt s.clause v)
      | inr r ↦ codes_below v ss q r
    ]

-- a log of new clauses is shorter than the clauses without complementary literals are many
pub Spent-below : (formula : Formula) (log : Derivation) (budget : ℕ) → IsSpentLog formula log budget → budget < 3 ^ formula.vars
unfolding IsDistinct
Spent-below formula log budget s =
    let v = formula.vars in
    let d = all_distinct v formula.clauses log.steps [] s.new tt (recursion_from_All (λ t. IsLogged v t.clause) log.steps s.logged) (tt, tt) in
    let most = length-le_from_distinct_below (0 ∷ codes v log.steps) (3 ^ v) d
    (λ q h. elim (or_cases (eqb q 0) (list_any (eqb q) (codes v log.steps)) h) [
      | inl e ↦ let same = eqb-true q 0 e in let c = code-lt [] v in omega arith
      | inr r ↦ codes_below v log.steps q r
    ]) in
    omega (arith, most, length-map log.steps (λ t. code t.clause v), s.long)
