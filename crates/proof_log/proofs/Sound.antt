-- Why a derivation that refutes leaves the formula no model.
use Rattle.std.proofs.Common.{◌≡◌, ℕ, Bool, true, false, not, eqb, Some, List, [], ◌∷◌, ◌++◌, map, sym, ap, ◌∙◌, inl, inr}
use Rattle.std.proofs.lemmas.Bool.{false≢true, cases_Bool, or_cases, or_left, or_right, eqb-true, cond-true, cond-false, not_from_true}
use Rattle.std.proofs.lemmas.Bool.{not_from_false, both_ways}
use Rattle.proof_log.specs.Literals.{negated, lit_true}
use Rattle.proof_log.specs.Clauses.{clause_true, is_set, open_literals}
use Rattle.proof_log.specs.Derivations.{clause_named, LeadsToConflict}
use Rattle.proof_log.proofs.LiteralLemmas.{lit_true-negated}
use Rattle.proof_log.proofs.Members.{not_true_false, or-false, or_both_false, is_set-push}

-- each set literal is true
abbrev pub AllSetTrue : (ℕ → Bool) → List ℕ → Type 0
AllSetTrue v set = (l : ℕ) → is_set set l ≡ true → lit_true v l ≡ true

-- a literal whose complement is set is false
pub false_at : (v : ℕ → Bool) (set : List ℕ) (l : ℕ) → AllSetTrue v set → is_set set (negated l) ≡ true → lit_true v l ≡ false
false_at v set l all h = not_true_false _ (sym (lit_true-negated v l) ∙ all (negated l) h)

-- what makes a clause true is not false
pub open_true : (v : ℕ → Bool) (set clause : List ℕ) → AllSetTrue v set → clause_true v clause ≡ true → clause_true v (open_literals set clause) ≡ true
open_true v set [] all h = h
open_true v set (x ∷ xs) all h =
    elim (cases_Bool (is_set set (negated x))) [
      | inl s ↦
          let x_false = false_at v set x all s in
          let rest : clause_true v xs ≡ true = elim (or_cases (lit_true v x) (clause_true v xs) h) [ inl t ↦ absurd (both_ways _ x_false t) | inr t ↦ t ] in
          ap (clause_true v) (cond-false (not (is_set set (negated x))) (x ∷ open_literals set xs) (open_literals set xs) (not_from_true _ s))
          ∙ open_true v set xs all rest
      | inr s ↦
          ap (clause_true v) (cond-true (not (is_set set (negated x))) (x ∷ open_literals set xs) (open_literals set xs) (not_from_false _ s))
          ∙ (elim (or_cases (lit_true v x) (clause_true v xs) h) [ inl t ↦ or_left _ _ t | inr t ↦ or_right _ _ (open_true v set xs all t) ])
    ]

pub AllSetTrue-push : (v : ℕ → Bool) (set : List ℕ) (u : ℕ) → AllSetTrue v set → lit_true v u ≡ true → AllSetTrue v (set ++ u ∷ [])
AllSetTrue-push v set u all t l h =
    elim (or_cases (is_set set l) (eqb u l) (sym (is_set-push set u l) ∙ h)) [
      | inl s ↦ all l s
      | inr e ↦ ap (lit_true v) (sym (eqb-true u l e)) ∙ t
    ]

-- where a clause is false, the complements of its literals are true
pub AllSetTrue-negated : (v : ℕ → Bool) (clause : List ℕ) → clause_true v clause ≡ false → AllSetTrue v (map negated clause)
unfolding is_set
AllSetTrue-negated v [] f l h = absurd (false≢true h)
AllSetTrue-negated v (x ∷ xs) f l h =
    let parts = or_both_false _ _ f in
    elim (or_cases (eqb (negated x) l) (is_set (map negated xs) l) h) [
      | inl e ↦ ap (lit_true v) (sym (eqb-true _ _ e)) ∙ lit_true-negated v x ∙ not_from_false _ parts.0
      | inr s ↦ AllSetTrue-negated v xs parts.1 l s
    ]

-- no values make the clauses and the set literals true where hints lead to a conflict
pub no_conflict : (v : ℕ → Bool) (known : List (List ℕ)) → ((n : ℕ) (c : List ℕ) → clause_named known n ≡ Some c → clause_true v c ≡ true)
    → (hints : List ℕ) (set : List ℕ) → AllSetTrue v set → LeadsToConflict known set hints → ⊥
no_conflict v known true_all [] set all leads = leads
no_conflict v known true_all (h ∷ hs) set all leads =
    let open_is_true = open_true v set leads.0 all (true_all h leads.0 leads.1) in
    elim leads.2 [
      | inl f ↦ false≢true (sym (ap (clause_true v) f.0) ∙ open_is_true)
      | inr w ↦
          let u_true : lit_true v w.0 ≡ true = sym (or-false (lit_true v w.0)) ∙ (sym (ap (clause_true v) w.1.0) ∙ open_is_true) in
          no_conflict v known true_all hs (set ++ w.0 ∷ []) (AllSetTrue-push v set w.0 all u_true) w.2
    ]
