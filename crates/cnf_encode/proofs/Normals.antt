-- Normal forms of clauses, one after another.
use Rattle.std.proofs.Common.{◌≡◌, ℕ, ◌+◌, ◌*◌, ◌/◌, ◌%◌, true, List, [], ◌∷◌, ◌++◌, map, refl, ap, sym, ◌∙◌, subst, arith, inl, inr, append_assoc}
use Rattle.std.proofs.lemmas.Bool.{cases_eq}
use Rattle.proof_log.specs.Literals.{negated}
use Rattle.proof_log.specs.Clauses.{is_set, IsNormal, HasComplements, IsKeptOf}
use Rattle.proof_log.proofs.LiteralLemmas.{negated_even, negated_odd}
use Rattle.proof_log.proofs.Normalizing.{normal_ascends}
use Rattle.query_model.specs.Variables.{is_code, IsNormalOf, HasOpposites, AreNormalsOf, code_of}
use Rattle.query_model.specs.declared.keys.Key.{Key}
use Rattle.query_model.specs.declared.keys.KeyLit.{KeyLit}
use Rattle.cnf_encode.specs.Coded.{coded, AddsNormals, Adds}

-- a literal is set where it is a code of the list
pub is_code-is_set : (lits : List ℕ) (l : ℕ) → is_code l lits ≡ is_set lits l
unfolding is_set
is_code-is_set lits l = refl

-- complements are the two codes of a variable
pub opposites : (lits : List ℕ) → HasComplements lits → HasOpposites lits
opposites lits has = elim (cases_eq (has.0 % 2) 0) [ inl even ↦ from_even even | inr odd ↦ from_odd odd ]
  where
    at : (l m : ℕ) → l ≡ m → is_set lits m ≡ true → is_code l lits ≡ true
    at l m e set = is_code-is_set lits l ∙ ap (is_set lits) e ∙ set

    from_even : has.0 % 2 ≡ 0 → HasOpposites lits
    from_even even =
        let up = negated_even has.0 even in
        (has.0 / 2, at (2 * (has.0 / 2)) has.0 (omega arith) has.1, at (2 * (has.0 / 2) + 1) (negated has.0) (omega (arith, up)) has.2)

    from_odd : (has.0 % 2 ≡ 0 → ⊥) → HasOpposites lits
    from_odd odd =
        let down = negated_odd has.0 odd in
        (has.0 / 2, at (2 * (has.0 / 2)) (negated has.0) (omega (arith, down)) has.2, at (2 * (has.0 / 2) + 1) has.0 (omega arith) has.1)

-- what stands in normal form ascends
pub normal_of : (lits clause : List ℕ) → IsNormal clause → ((l : ℕ) → is_set clause l ≡ is_set lits l) → IsNormalOf lits clause
normal_of lits clause normal same = record {
  ascends = λ i lt. normal_ascends clause i (i + 1) normal (omega arith) lt;
  same = λ l. is_code-is_set clause l ∙ same l ∙ sym (is_code-is_set lits l);
}

-- one more clause that has complements
pub left_out : (all clauses : List (List ℕ)) (lits : List ℕ) → HasOpposites lits → AreNormalsOf all clauses → AreNormalsOf (all ++ lits ∷ []) clauses
left_out [] [] lits has are = (has, tt)
left_out [] (c ∷ cs) lits has are = absurd are
left_out (l ∷ rest) [] lits has are = (are.0, left_out rest [] lits has are.1)
left_out (l ∷ rest) (c ∷ cs) lits has (inl out) = inl (out.0, left_out rest (c ∷ cs) lits has out.1)
left_out (l ∷ rest) (c ∷ cs) lits has (inr taken) = inr (taken.0, left_out rest cs lits has taken.1)

-- one more clause with its normal form
pub added : (all clauses : List (List ℕ)) (lits clause : List ℕ) → IsNormalOf lits clause → AreNormalsOf all clauses → AreNormalsOf (all ++ lits ∷ [])
    (clauses ++ clause ∷ [])
added [] [] lits clause normal are = inr (normal, tt)
added [] (c ∷ cs) lits clause normal are = absurd are
added (l ∷ rest) [] lits clause normal are = inl (are.0, added rest [] lits clause normal are.1)
added (l ∷ rest) (c ∷ cs) lits clause normal (inl out) = inl (out.0, added rest (c ∷ cs) lits clause normal out.1)
added (l ∷ rest) (c ∷ cs) lits clause normal (inr taken) = inr (taken.0, added rest cs lits clause normal taken.1)

append_nil : (xs : List (List ℕ)) → xs ++ [] ≡ xs
append_nil [] = refl
append_nil (x ∷ xs) = ap (λ ys. x ∷ ys) (append_nil xs)

pub coded-append : (keys : List Key) (a b : List (List KeyLit)) → coded keys (a ++ b) ≡ coded keys a ++ coded keys b
coded-append keys [] b = refl
coded-append keys (c ∷ a) b = ap (λ cs. map (code_of keys) c ∷ cs) (coded-append keys a b)

-- these were added, and then those
pub Adds-append : (keys : List Key) (a b : List (List KeyLit)) (old mid new : List (List ℕ)) → Adds keys a old mid → Adds keys b mid new
    → Adds keys (a ++ b) old new
Adds-append keys a b old mid new first then before are =
    subst (λ all. AreNormalsOf all new) (append_assoc before (coded keys a) (coded keys b) ∙ ap (λ more. before ++ more)
    (sym (coded-append keys a b))) (then (before ++ coded keys a) (first before are))

-- a clause that is kept in normal form, or left out, is added
pub kept_adds : (lits : List ℕ) (old new : List (List ℕ)) → IsKeptOf lits old new → AddsNormals (lits ∷ []) old new
kept_adds lits old new (inl out) before are =
    subst (AreNormalsOf (before ++ lits ∷ [])) (sym out.1) (left_out before old lits (opposites lits out.0) are)
kept_adds lits old new (inr kept) before are =
    subst (AreNormalsOf (before ++ lits ∷ [])) (sym kept.3) (added before old lits kept.0 (normal_of lits kept.0 kept.1 kept.2) are)
