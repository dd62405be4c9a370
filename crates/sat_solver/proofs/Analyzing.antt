-- Which literals of a clause are false, one by one.
use Rattle.std.proofs.Common.{◌≡◌, ℕ, ◌+◌, ◌<◌, ◌≤◌, true, false, eqb, leb, ltb, Option, Some, None, List, [], ◌∷◌, ◌++◌, length, get_or, take, drop}
use Rattle.std.proofs.Common.{sym, ap, ◌∙◌, subst, inl, inr, arith}
use Rattle.std.specs.Bool.{MatchBool}
use Rattle.std.specs.Prelude.{MatchOption}
use Rattle.std.proofs.lemmas.Bool.{false≢true, or_cases, eqb-true, le-leb, leb-true, ltb-true, lt-ltb, false_from_ne_true, cases_lt}
use Rattle.std.proofs.lemmas.List.{take_more, take-append-drop, length-take-le, get_or-take}
use Rattle.proof_log.specs.Literals.{negated}
use Rattle.proof_log.specs.Clauses.{is_set}
use Rattle.proof_log.proofs.LiteralLemmas.{negated-negated}
use Rattle.proof_log.proofs.Members.{is_set-push, is_set-nil, is_set-at, is_set-take, is_set-append}
use Rattle.sat_solver.specs.Learning.{OthersFalse, OtherOpen, IsFrontLen}
use Rattle.sat_solver.specs.Cuts.{FalseBy}
use Rattle.sat_solver.proofs.Trailing.{is_set-take_more}
use Rattle.sat_solver.specs.Watches.{IsOpenAt}

pub OthersFalse-none : (set : List ℕ) (u : ℕ) → OthersFalse set [] u
OthersFalse-none set u l h ne = absurd (false≢true (sym (is_set-nil l) ∙ h))

pub OthersFalse-more : (set clause : List ℕ) (u i x : ℕ) → i < length clause → x ≡ get_or clause i 0 → OthersFalse set (take i clause) u
    → ((x ≡ u → ⊥) → is_set set (negated x) ≡ true) → OthersFalse set (take (i + 1) clause) u
OthersFalse-more set clause u i x h e before here l m ne =
    let more : take (i + 1) clause ≡ take i clause ++ x ∷ [] = take_more clause i 0 h ∙ ap (λ y. take i clause ++ y ∷ []) (sym e) in
    elim (or_cases (is_set (take i clause) l) (eqb x l) (sym (is_set-push (take i clause) x l) ∙ (sym (ap (λ ys. is_set ys l) more) ∙ m))) [
      | inl t ↦ before l t ne
      | inr s ↦ let same = eqb-true x l s in
          ap (λ q. is_set set (negated q)) (sym same) ∙ here (λ k. ne (sym same ∙ k))
    ]

pub OtherOpen-at : (set clause : List ℕ) (u i x : ℕ) → i < length clause → x ≡ get_or clause i 0 → (x ≡ u → ⊥) × (is_set set (negated x) ≡ false)
    → OtherOpen set clause u
OtherOpen-at set clause u i x h e here = (x, ap (is_set clause) e ∙ is_set-at clause i h, here.0, here.1)

-- what the place of a literal's complement tells
pub open_other_means : (set : List ℕ) (l u q place len : ℕ) → (l ≡ u → ⊥) → is_set set q ≡ ltb place len → MatchBool (leb len place)
    ((l ≡ u → ⊥) × (is_set set q ≡ false)) ((l ≡ u → ⊥) → is_set set q ≡ true)
open_other_means set l u q place len ne is =
    elim (cases_lt place len) [
      | inl lt ↦ rw (false_from_ne_true _ (λ t. let k = leb-true len place t in absurd (omega arith))) (λ _. is ∙ lt-ltb place len lt)
      | inr ge ↦ rw (le-leb len place ge) (ne, is ∙ false_from_ne_true _ (λ t. let k = ltb-true place len t in absurd (omega arith)))
    ]

-- at the decision, where the level starts, the cut is false by the levels below but for one literal
pub OthersFalse-at_decision : (trail cut : List ℕ) (at : ℕ) → at < length trail → FalseBy (take (at + 1) trail) cut → OthersFalse (take at trail) cut
    (negated (get_or trail at 0))
OthersFalse-at_decision trail cut at h f l m ne =
    elim (or_cases (is_set (take at trail) (negated l)) (eqb (get_or trail at 0) (negated l))
    (sym (is_set-push (take at trail) (get_or trail at 0) (negated l)) ∙ (sym (ap (λ xs. is_set xs (negated l)) (take_more trail at 0 h)) ∙ f l m))) [
      | inl t ↦ t
      | inr e ↦ absurd (ne (sym (negated-negated l) ∙ ap negated (sym (eqb-true _ _ e))))
    ]

-- what is false by a front is false by the whole
pub FalseBy-whole : (trail cut : List ℕ) (n : ℕ) → FalseBy (take n trail) cut → FalseBy trail cut
FalseBy-whole trail cut n f l m = is_set-take n trail (negated l) (f l m)

-- the literals before a place and those from it on are false, so all are
pub OthersFalse-parts : (set clause : List ℕ) (u n : ℕ) → OthersFalse set (take n clause) u → OthersFalse set (drop n clause) u → OthersFalse set clause u
OthersFalse-parts set clause u n front back l m ne =
    elim (or_cases (is_set (take n clause) l) (is_set (drop n clause) l)
    (sym (is_set-append (take n clause) (drop n clause) l) ∙ (ap (λ xs. is_set xs l) (take-append-drop n clause) ∙ m))) [
      | inl t ↦ front l t ne
      | inr t ↦ back l t ne
    ]

-- a search from a place on that finds none is followed by one in the literals before
pub OthersFalse-search : (set clause front back : List ℕ) (u n : ℕ) → n ≤ length clause → front ≡ take n clause → back ≡ drop n clause
    → OthersFalse set back u → (found : Option ℕ) → MatchOption found (OthersFalse set front u) (IsOpenAt set front u)
    → MatchOption found (OthersFalse set clause u) (IsOpenAt set clause u)
OthersFalse-search set clause front back u n few front_is back_is none None h =
    let P : List ℕ → Type 0 = λ xs. OthersFalse set xs u in
    OthersFalse-parts set clause u n (subst P front_is h) (subst P back_is none)
OthersFalse-search set clause front back u n few front_is back_is none (Some at) h =
    let long : length front ≡ n = ap length front_is ∙ length-take-le n clause few in
    let same : get_or front at 0 ≡ get_or clause at 0 = ap (λ xs. get_or xs at 0) front_is ∙ get_or-take n clause at 0 (omega (arith, h.0)) in (
      omega (arith, h.0),
      λ e. h.1 (same ∙ e),
      ap (λ x. is_set set (negated x)) (sym same) ∙ h.2,
    )

pub IsFrontLen-none : (lits : List ℕ) (u : ℕ) → IsFrontLen lits [] u 0
IsFrontLen-none lits u = record { falsified = λ n h. OthersFalse-none (take n lits) u; least = λ n h. absurd (omega arith) }

-- one more literal is false by the same front
pub IsFrontLen-kept : (lits clause : List ℕ) (u i x len : ℕ) → i < length clause → x ≡ get_or clause i 0
    → ((x ≡ u → ⊥) → is_set (take len lits) (negated x) ≡ true) → IsFrontLen lits (take i clause) u len → IsFrontLen lits (take (i + 1) clause) u len
IsFrontLen-kept lits clause u i x len within e here before = record {
  falsified = λ n h. OthersFalse-more (take n lits) clause u i x within e (before.falsified n h) (λ ne. is_set-take_more len n lits h (negated x) (here ne));
  least = λ n h. let o = before.least n h in (o.0, is_set-take_more i (i + 1) clause (omega arith) o.0 o.1, o.2, o.3);
}

-- one more literal is false by a longer front, which ends with its complement
pub IsFrontLen-longer : (lits clause : List ℕ) (u i x len place : ℕ) → i < length clause → x ≡ get_or clause i 0
    → (x ≡ u → ⊥) × (is_set (take len lits) (negated x) ≡ false) → ((n : ℕ) → is_set (take n lits) (negated x) ≡ ltb place n)
    → IsFrontLen lits (take i clause) u len → IsFrontLen lits (take (i + 1) clause) u (place + 1)
IsFrontLen-longer lits clause u i x len place within e here front before = record {
  falsified = λ n h. OthersFalse-more (take n lits) clause u i x within e (before.falsified n (omega (arith, low)))
      (λ ne. front n ∙ lt-ltb place n (omega arith));
  least = λ n h. OtherOpen-at (take n lits) (take (i + 1) clause) u i x (omega (arith, length-take-le (i + 1) clause (omega arith)))
      (e ∙ sym (get_or-take (i + 1) clause i 0 (omega arith)))
      (here.0, front n ∙ false_from_ne_true _ (λ t. let k = ltb-true place n t in absurd (omega arith)));
}
  where
    low : len ≤ place
    low = elim (cases_lt place len) [
      | inl lt ↦ absurd (false≢true (sym here.1 ∙ (front len ∙ lt-ltb place len lt)))
      | inr ge ↦ ge
    ]
