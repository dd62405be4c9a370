-- Clauses under set literals: false, unit or quiet, by their members.
use Rattle.std.proofs.Common.{◌≡◌, ℕ, Bool, true, false, not, cond, eqb, List, [], ◌∷◌, map, refl, sym, ap, ◌∙◌, inl, inr}
use Rattle.std.specs.List.{filter, IsDistinct}
use Rattle.std.proofs.lemmas.Bool.{false≢true, cases_Bool, or_cases, or_left, or_right, eqb-true, eq-eqb, ne_eqb, cases_eq, cond-true, cond-false}
use Rattle.std.proofs.lemmas.Bool.{not_from_true, not_from_false, both_ways}
use Rattle.proof_log.specs.Literals.{lit_var, negated}
use Rattle.proof_log.specs.Clauses.{is_set, open_literals, IsFalseUnder, IsUnitUnder, IsQuietUnder}
use Rattle.proof_log.proofs.Members.{is_set-nil, is_set-cons, filter_mem, mem_filter, not_true_false, other_var}
use Rattle.sat_solver.specs.Learning.{OtherOpen}
use Rattle.sat_solver.specs.Cuts.{FalseBy}

pub FalseBy-from_false : (set clause : List ℕ) → IsFalseUnder set clause → FalseBy set clause
FalseBy-from_false set clause f l h =
    let test : ℕ → Bool = λ q. not (is_set set (negated q)) in
    elim (cases_Bool (is_set set (negated l))) [
      | inl t ↦ t
      | inr n ↦ absurd (false≢true (sym (is_set-nil l) ∙ (sym (ap (λ ys. is_set ys l) f) ∙ filter_mem test clause l h (not_from_false _ n))))
    ]

pub false_from_FalseBy : (set clause : List ℕ) → FalseBy set clause → IsFalseUnder set clause
false_from_FalseBy set [] f = refl
false_from_FalseBy set (x ∷ xs) f =
    cond-false (not (is_set set (negated x))) (x ∷ open_literals set xs) (open_literals set xs)
    (not_from_true _ (f x (is_set-cons x xs x ∙ or_left _ _ (eq-eqb x x refl))))
    ∙ false_from_FalseBy set xs (λ l h. f l (is_set-cons x xs l ∙ or_right _ _ h))

-- in a unit clause the other literals are false
pub unit_others : (set clause : List ℕ) (u l : ℕ) → IsUnitUnder set clause u → is_set clause l ≡ true → (l ≡ u → ⊥) → is_set set (negated l) ≡ true
unit_others set clause u l unit h ne =
    let test : ℕ → Bool = λ q. not (is_set set (negated q)) in
    elim (cases_Bool (is_set set (negated l))) [
      | inl t ↦ t
      | inr n ↦
          let one : is_set (u ∷ []) l ≡ true = sym (ap (λ ys. is_set ys l) unit.0) ∙ filter_mem test clause l h (not_from_false _ n) in
          elim (or_cases (eqb u l) (is_set [] l) (sym (is_set-cons u [] l) ∙ one)) [
            | inl e ↦ absurd (ne (sym (eqb-true u l e)))
            | inr z ↦ absurd (both_ways _ (is_set-nil l) z)
          ]
    ]

pub unit_unset : (set clause : List ℕ) (u : ℕ) → IsUnitUnder set clause u → is_set set (negated u) ≡ false
unit_unset set clause u unit =
    let test : ℕ → Bool = λ q. not (is_set set (negated q)) in
    let here : is_set (open_literals set clause) u ≡ true = ap (λ ys. is_set ys u) unit.0 ∙ is_set-cons u [] u ∙ or_left _ _ (eq-eqb u u refl) in
    not_true_false _ (mem_filter test clause u here).1

filter_same : (f g : ℕ → Bool) (xs : List ℕ) → ((l : ℕ) → is_set xs l ≡ true → f l ≡ g l) → filter f xs ≡ filter g xs
filter_same f g [] same = refl
filter_same f g (x ∷ xs) same =
    let rest = filter_same f g xs (λ l h. same l (is_set-cons x xs l ∙ or_right _ _ h)) in
    let here = same x (is_set-cons x xs x ∙ or_left _ _ (eq-eqb x x refl)) in
    ap (λ b. cond b (x ∷ filter f xs) (filter f xs)) here ∙ ap (λ ys. cond (g x) (x ∷ ys) ys) rest

-- a clause that is unit is so under other literals that make its rest false and leave p unset
pub unit_moves : (set other clause : List ℕ) (p : ℕ) → IsUnitUnder set clause p → FalseBy other (filter (λ l. not (eqb l p)) clause)
    → is_set other p ≡ false → is_set other (negated p) ≡ false → IsUnitUnder other clause p
unit_moves set other clause p unit f t n = (
  filter_same (λ l. not (is_set other (negated l))) (λ l. not (is_set set (negated l))) clause
      (λ l h. elim (cases_eq l p) [
        | inl e ↦ ap (λ q. not (is_set other (negated q))) e ∙ (ap not (n ∙ sym (unit_unset set clause p unit))
            ∙ sym (ap (λ q. not (is_set set (negated q))) e))
        | inr ne ↦ ap not (f l (filter_mem (λ q. not (eqb q p)) clause l h (not_from_false _ (ne_eqb l p ne))) ∙ sym (unit_others set clause p l unit h ne))
      ])
      ∙ unit.0,
  t,
)

-- a clause is unit with u where the others are false and u is unset
pub open_only : (set d : List ℕ) (u : ℕ) → IsDistinct eqb (map lit_var d) → is_set d u ≡ true
    → ((l : ℕ) → is_set d l ≡ true → (l ≡ u → ⊥) → is_set set (negated l) ≡ true) → is_set set (negated u) ≡ false → open_literals set d ≡ u ∷ []
unfolding IsDistinct
open_only set [] u dist h others unset = absurd (false≢true (sym (is_set-nil u) ∙ h))
open_only set (x ∷ xs) u dist h others unset =
    elim (cases_eq x u) [
      | inl e ↦
          let n : is_set set (negated x) ≡ false = ap (λ q. is_set set (negated q)) e ∙ unset in
          let rest : open_literals set xs ≡ [] = false_from_FalseBy set xs
          (λ l m. others l (is_set-cons x xs l ∙ or_right _ _ m) (λ s. other_var x xs dist.0 l m (ap lit_var (e ∙ sym s)))) in
          cond-true (not (is_set set (negated x))) (x ∷ open_literals set xs) (open_literals set xs) (not_from_false _ n)
          ∙ ap (λ ys. x ∷ ys) rest ∙ ap (λ q. q ∷ []) e
      | inr ne ↦
          let t = others x (is_set-cons x xs x ∙ or_left _ _ (eq-eqb x x refl)) ne in
          let there : is_set xs u ≡ true = elim (or_cases (eqb x u) (is_set xs u) (sym (is_set-cons x xs u) ∙ h))
          [ inl e ↦ absurd (ne (eqb-true x u e)) | inr r ↦ r ] in
          cond-false (not (is_set set (negated x))) (x ∷ open_literals set xs) (open_literals set xs) (not_from_true _ t)
          ∙ open_only set xs u dist.1 there (λ l m o. others l (is_set-cons x xs l ∙ or_right _ _ m) o) unset
    ]

-- with two literals that are not false a clause is quiet
pub two_open_quiet : (set c : List ℕ) (u : ℕ) → is_set c u ≡ true → is_set set (negated u) ≡ false → OtherOpen set c u → IsQuietUnder set c
two_open_quiet set c u inside unset w =
    let test : ℕ → Bool = λ q. not (is_set set (negated q)) in
    let u_in : is_set (open_literals set c) u ≡ true = filter_mem test c u inside (not_from_false _ unset) in
    let l_in : is_set (open_literals set c) w.0 ≡ true = filter_mem test c w.0 w.1 (not_from_false _ w.3) in (
      λ f. false≢true (sym (is_set-nil u) ∙ (sym (ap (λ xs. is_set xs u) f) ∙ u_in)),
      λ x unit. w.2 (sym (only x w.0 (sym (ap (λ xs. is_set xs w.0) unit.0) ∙ l_in)) ∙ only x u (sym (ap (λ xs. is_set xs u) unit.0) ∙ u_in)),
    )
  where
    only : (x q : ℕ) → is_set (x ∷ []) q ≡ true → x ≡ q
    only x q h = elim (or_cases (eqb x q) (is_set [] q) (sym (is_set-cons x [] q) ∙ h)) [
      | inl e ↦ eqb-true x q e
      | inr z ↦
          absurd (false≢true (sym (is_set-nil q) ∙ z))
    ]

-- a literal that is not false stands among the open ones
open_in : (set clause : List ℕ) (l : ℕ) → is_set clause l ≡ true → is_set set (negated l) ≡ false → is_set (open_literals set clause) l ≡ true
open_in set clause l inside unset = filter_mem (λ q. not (is_set set (negated q))) clause l inside (not_from_false _ unset)

pub only : (x q : ℕ) → is_set (x ∷ []) q ≡ true → x ≡ q
only x q h = elim (or_cases (eqb x q) (is_set [] q) (sym (is_set-cons x [] q) ∙ h)) [
  | inl e ↦ eqb-true x q e
  | inr z ↦
      absurd (false≢true (sym (is_set-nil q) ∙ z))
]

-- a clause with a true literal is quiet
pub true_quiet : (set clause : List ℕ) (l : ℕ) → is_set clause l ≡ true → is_set set (negated l) ≡ false → is_set set l ≡ true → IsQuietUnder set clause
true_quiet set clause l inside unset t =
    let here = open_in set clause l inside unset in (
      λ f. false≢true (sym (is_set-nil l) ∙ (sym (ap (λ xs. is_set xs l) f) ∙ here)),
      λ u unit. let same : u ≡ l = only u l (sym (ap (λ xs. is_set xs l) unit.0) ∙ here) in both_ways _ unit.1 (ap (is_set set) same ∙ t),
    )

-- and one with two different literals that are not false
pub two_quiet : (set clause : List ℕ) (a b : ℕ) → is_set clause a ≡ true → is_set clause b ≡ true → (a ≡ b → ⊥) → is_set set (negated a) ≡ false
    → is_set set (negated b) ≡ false → IsQuietUnder set clause
two_quiet set clause a b in_a in_b ne open_a open_b = two_open_quiet set clause a in_a open_a (b, in_b, (λ e. ne (sym e)), open_b)
