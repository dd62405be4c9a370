-- What a clause does, literal by literal.
use Rattle.std.proofs.Common.{◌≡◌, ℕ, ◌+◌, ◌<◌, Bool, true, false, not, Option, Some, None, List, [], ◌∷◌, ◌++◌, length, get_or, take, drop, refl, sym, ap, ◌∙◌}
use Rattle.std.specs.List.{filter}
use Rattle.std.proofs.lemmas.List.Elements.{filter_more, filter-append, filter_passes, All-same, All-head, All-filter}
use Rattle.std.proofs.lemmas.List.{take-append-drop, append-nil}
use Rattle.std.specs.Option.{option_to_list, is_some}
use Rattle.std.specs.List.{All}
use Rattle.std.proofs.Common.{inl, inr}
use Rattle.std.proofs.lemmas.Bool.{false≢true, cases_Bool, not-true, cond-true, cond-false}
use Rattle.proof_log.specs.Literals.{negated}
use Rattle.proof_log.specs.Clauses.{is_set, open_literals}
use Rattle.proof_log.specs.Effects.{effect_of, effect_of_open}
use Rattle.proof_log.specs.declared.effects.Effect.TheVariants.{Falsified, Sets, Neither}

-- one more literal that is not false
pub open_more : (set clause : List ℕ) (i x : ℕ) → i < length clause → x ≡ get_or clause i 0 → is_set set (negated x) ≡ false
    → open_literals set (take (i + 1) clause) ≡ open_literals set (take i clause) ++ x ∷ []
open_more set clause i x h e s =
    rw (filter_more (λ l. not (is_set set (negated l))) clause i 0 h, ← e, s)

-- one more literal that is false
pub open_same : (set clause : List ℕ) (i x : ℕ) → i < length clause → x ≡ get_or clause i 0 → is_set set (negated x) ≡ true
    → open_literals set (take (i + 1) clause) ≡ open_literals set (take i clause)
open_same set clause i x h e s =
    rw (filter_more (λ l. not (is_set set (negated l))) clause i 0 h, ← e, s) (append-nil _)

-- two literals that are not false
pub neither_from_two : (set clause : List ℕ) (i x w : ℕ) → i < length clause → x ≡ get_or clause i 0 → is_set set (negated x) ≡ false
    → open_literals set (take i clause) ≡ w ∷ [] → effect_of set clause ≡ Neither
neither_from_two set clause i x w h e s one =
    let test : ℕ → Bool = λ l. not (is_set set (negated l)) in
    ap (λ c. effect_of_open set (filter test c)) (sym (take-append-drop (i + 1) clause))
    ∙ ap (effect_of_open set) (filter-append test (take (i + 1) clause) (drop (i + 1) clause))
    ∙ ap (λ o. effect_of_open set (o ++ filter test (drop (i + 1) clause))) (open_more set clause i x h e s ∙ ap (λ o. o ++ x ∷ []) one)

pub neither_from_some : (set clause : List ℕ) (i x : ℕ) (o : Option ℕ) → i < length clause → x ≡ get_or clause i 0 → is_set set (negated x) ≡ false
    → is_some o ≡ true → open_literals set (take i clause) ≡ option_to_list o → Neither ≡ effect_of set clause
neither_from_some set clause i x None h e s some inv = absurd (false≢true some)
neither_from_some set clause i x (Some w) h e s some inv = sym (neither_from_two set clause i x w h e s inv)

pub falsified_is : (set o : List ℕ) → effect_of_open set o ≡ Falsified → o ≡ []
falsified_is set [] h = refl
falsified_is set (u ∷ []) h = elim (cases_Bool (is_set set u)) [
  | inl t ↦ let e = cond-true (is_set set u) Neither (Sets u) t in cc
  | inr f ↦ let e = cond-false (is_set set u) Neither (Sets u) f in cc
]
falsified_is set (u ∷ (w ∷ more)) h = cc

pub sets_is : (set o : List ℕ) (l : ℕ) → effect_of_open set o ≡ Sets l → (o ≡ l ∷ []) × (is_set set l ≡ false)
sets_is set [] l h = cc
sets_is set (u ∷ []) l h = elim (cases_Bool (is_set set u)) [
  | inl t ↦ let e = cond-true (is_set set u) Neither (Sets u) t in cc
  | inr f ↦ let e = cond-false (is_set set u) Neither (Sets u) f in let same : u ≡ l = cc in (ap (λ x. x ∷ []) same, ap (is_set set) (sym same) ∙ f)
]
sets_is set (u ∷ (w ∷ more)) l h = cc

-- a literal that a clause sets is unset, and one of its own
pub sets_unset : (set clause : List ℕ) (u : ℕ) → effect_of set clause ≡ Sets u → is_set set (negated u) ≡ false
sets_unset set clause u h =
    let one = (sets_is set (open_literals set clause) u h).0 in
    let test : ℕ → Bool = λ l. not (is_set set (negated l)) in
    let passes : All (λ x. test x ≡ true) (u ∷ []) = All-same (λ x. test x ≡ true) _ _ (sym one) (filter_passes test clause) in
    not-true _ (All-head (λ x. test x ≡ true) u [] passes)

pub sets_in : (P : ℕ → Type 0) (set clause : List ℕ) (u : ℕ) → effect_of set clause ≡ Sets u → All P clause → P u
sets_in P set clause u h all =
    let one = (sets_is set (open_literals set clause) u h).0 in
    let test : ℕ → Bool = λ l. not (is_set set (negated l)) in
    All-head P u [] (All-same P _ _ (sym one) (All-filter test P clause all))
