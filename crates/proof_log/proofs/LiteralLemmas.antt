-- Literals and their complements.
use Rattle.std.proofs.Common.{◌≡◌, ℕ, ◌+◌, ◌-◌, ◌/◌, ◌%◌, ◌<◌, ◌≢◌, Bool, true, false, not, refl, sym, ap, ◌∙◌, inl, inr, ◌⊎◌, arith}
use Rattle.std.proofs.lemmas.Bool.{cond-true, cond-false, eq-eqb, ne_eqb, cases_eq}
use Rattle.proof_log.specs.Literals.{negated, lit_true, lit_var}

pub negated_even : (l : ℕ) → l % 2 ≡ 0 → negated l ≡ l + 1
negated_even l h = cond-true _ _ _ (eq-eqb _ _ h)

pub negated_odd : (l : ℕ) → (l % 2 ≡ 0 → ⊥) → negated l ≡ l - 1
negated_odd l h = cond-false _ _ _ (ne_eqb _ _ h)

pub lit_true_even : (v : ℕ → Bool) (l : ℕ) → l % 2 ≡ 0 → lit_true v l ≡ v (l / 2)
unfolding lit_true
lit_true_even v l h = cond-true _ _ _ (eq-eqb _ _ h)

pub lit_true_odd : (v : ℕ → Bool) (l : ℕ) → (l % 2 ≡ 0 → ⊥) → lit_true v l ≡ not (v (l / 2))
unfolding lit_true
lit_true_odd v l h = cond-false _ _ _ (ne_eqb _ _ h)

pub not-not : (b : Bool) → not (not b) ≡ b
not-not true = refl
not-not false = refl

pub even_up : (l : ℕ) → l % 2 ≡ 0 → ((l + 1) % 2 ≡ 1) × ((l + 1) / 2 ≡ l / 2)
even_up l h = (omega arith, omega arith)

pub odd_down : (l : ℕ) → (l % 2 ≡ 0 → ⊥) → ((l - 1) % 2 ≡ 0) × ((l - 1) / 2 ≡ l / 2) × (0 < l)
odd_down l h = (omega arith, omega arith, omega arith)

-- a literal and its complement have opposite values
pub lit_true-negated : (v : ℕ → Bool) (l : ℕ) → lit_true v (negated l) ≡ not (lit_true v l)
lit_true-negated v l =
    elim (cases_eq (l % 2) 0) [
      | inl h ↦ let up = even_up l h in
          ap (lit_true v) (negated_even l h) ∙ lit_true_odd v (l + 1) (λ e. absurd (omega arith)) ∙ ap (λ x. not (v x)) up.1
          ∙ ap not (sym (lit_true_even v l h))
      | inr h ↦ let down = odd_down l h in
          ap (lit_true v) (negated_odd l h) ∙ lit_true_even v (l - 1) down.0 ∙ ap v down.1 ∙ sym (not-not (v (l / 2))) ∙ ap not (sym (lit_true_odd v l h))
    ]

pub negated-negated : (l : ℕ) → negated (negated l) ≡ l
negated-negated l =
    elim (cases_eq (l % 2) 0) [
      | inl h ↦ let up = even_up l h in
          ap negated (negated_even l h) ∙ negated_odd (l + 1) (λ e. absurd (omega arith)) ∙ omega arith
      | inr h ↦ let down = odd_down l h in
          ap negated (negated_odd l h) ∙ negated_even (l - 1) down.0 ∙ omega arith
    ]

pub negated_other : (l : ℕ) → negated l ≢ l
negated_other l e =
    elim (cases_eq (l % 2) 0) [
      | inl h ↦ let n = negated_even l h in absurd (omega arith)
      | inr h ↦ let n = negated_odd l h in let d = odd_down l h in absurd (omega arith)
    ]

pub lit_var-negated : (l : ℕ) → lit_var (negated l) ≡ lit_var l
lit_var-negated l =
    elim (cases_eq (l % 2) 0) [
      | inl h ↦ ap lit_var (negated_even l h) ∙ (even_up l h).1
      | inr h ↦ ap lit_var (negated_odd l h) ∙ (odd_down l h).1
    ]

-- two literals of one variable are equal or complements
pub same_var : (l m : ℕ) → lit_var l ≡ lit_var m → (l ≡ m) ⊎ (l ≡ negated m)
same_var l m e =
    elim (cases_eq l m) [
      | inl h ↦ inl h
      | inr ne ↦ inr (elim (cases_eq (m % 2) 0) [
        | inl h ↦ let n = negated_even m h in omega arith
        | inr h ↦ let n = negated_odd m h in omega arith
      ])
    ]
