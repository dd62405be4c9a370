-- Resolving a false clause with reasons keeps a cut.
use Rattle.std.proofs.Common.{◌≡◌, ℕ, zero, suc, ◌+◌, ◌<◌, ◌≤◌, true, false, not, eqb, Some, List, [], ◌∷◌, ◌++◌, map, length, get_or, take, drop}
use Rattle.std.proofs.Common.{reverse, slice_get, refl, sym, ap, ◌∙◌, subst, inl, inr, arith}
use Rattle.std.specs.List.{IsDistinct}
use Rattle.std.proofs.lemmas.Bool.{false≢true, cases_Bool, or_cases, or_left, or_right, or_from, eqb-true, eqb-false, eq-eqb, ne_eqb, cases_eq}
use Rattle.std.proofs.lemmas.Bool.{not_from_false, both_ways, MatchBool-at_true, MatchBool-at_false}
use Rattle.std.proofs.lemmas.List.{take_more, drop_more, take_all, drop_all, get_or-take, reverse-append, append-nil}
use Rattle.proof_log.specs.Literals.{lit_var, negated}
use Rattle.proof_log.specs.Clauses.{is_set, IsFalseUnder, IsUnitUnder}
use Rattle.proof_log.specs.Derivations.{clause_named}
use Rattle.proof_log.proofs.LiteralLemmas.{negated-negated, lit_var-negated}
use Rattle.proof_log.proofs.Members.{is_set-nil, is_set-push, is_set-append, is_set_first, is_set_later, is_set-take, filter_mem, mem_filter, not_true_false}
use Rattle.proof_log.proofs.Named.{clause_named_place}
use Rattle.sat_solver.specs.Searches.{IsUnitAt, IsFalseAt}
use Rattle.sat_solver.specs.Cuts.{FalseBy, Apart, OtherVars, Leads, CutState, resolvent, ResolvedAt, ResolvedBelow}
use Rattle.sat_solver.proofs.OpenClauses.{FalseBy-from_false, false_from_FalseBy, unit_others, unit_moves}
use Rattle.sat_solver.proofs.Trailing.{parts_apart, at_front}

pub some_same : {X : Type 0} (a b : X) → Some a ≡ Some b → a ≡ b
some_same a b e = cc

-- the number of a place names its clause
pub named_place : (clauses : List (List ℕ)) (place : ℕ) (clause : List ℕ) → slice_get clauses place ≡ Some clause
    → clause_named clauses (place + 1) ≡ Some clause
named_place clauses place clause h =
    clause_named_place clauses (place + 1) (λ e. absurd (omega arith)) ∙ ap (slice_get clauses) (omega arith) ∙ h

-- where a cut is false by more literals than before, it stays so
FalseBy-step : (cut front rest reason : List ℕ) (p : ℕ) → FalseBy ((front ++ p ∷ []) ++ rest) cut → IsUnitUnder front reason p
    → FalseBy (front ++ rest) (resolvent cut p reason)
FalseBy-step cut front rest reason p f unit l h =
    elim (or_cases _ _ (sym (is_set-append _ _ l) ∙ h)) [
      | inl a ↦
          let m = mem_filter (λ q. not (eqb q (negated p))) cut l a in
          elim (or_cases (is_set (front ++ p ∷ []) (negated l)) (is_set rest (negated l)) (sym (is_set-append (front ++ p ∷ []) rest (negated l)) ∙ f l m.0)) [
            | inl t ↦ elim (or_cases (is_set front (negated l)) (eqb p (negated l)) (sym (is_set-push front p (negated l)) ∙ t)) [
              | inl s ↦ is_set-append front rest (negated l) ∙ or_left _ _ s
              | inr e ↦ let same : l ≡ negated p = sym (negated-negated l) ∙ ap negated (sym (eqb-true _ _ e)) in
                  absurd (eqb-false _ _ (not_true_false _ m.1) same)
            ]
            | inr t ↦ is_set-append front rest (negated l) ∙ or_right _ _ t
          ]
      | inr b ↦
          let m = mem_filter (λ q. not (eqb q p)) reason l b in
          is_set-append front rest (negated l) ∙ or_left _ _ (unit_others front reason p l unit m.0 (eqb-false _ _ (not_true_false _ m.1)))
    ]

FalseBy-skip : (cut front rest : List ℕ) (p : ℕ) → FalseBy ((front ++ p ∷ []) ++ rest) cut → is_set cut (negated p) ≡ false → FalseBy (front ++ rest) cut
FalseBy-skip cut front rest p f none l h =
    elim (or_cases (is_set (front ++ p ∷ []) (negated l)) (is_set rest (negated l)) (sym (is_set-append (front ++ p ∷ []) rest (negated l)) ∙ f l h)) [
      | inl t ↦ elim (or_cases (is_set front (negated l)) (eqb p (negated l)) (sym (is_set-push front p (negated l)) ∙ t)) [
        | inl s ↦ is_set-append front rest (negated l) ∙ or_left _ _ s
        | inr e ↦
            let same : l ≡ negated p = sym (negated-negated l) ∙ ap negated (sym (eqb-true _ _ e)) in
            absurd (both_ways _ none (ap (is_set cut) (sym same) ∙ h))
      ]
      | inr t ↦ is_set-append front rest (negated l) ∙ or_right _ _ t
    ]

Apart-tail : (set later : List ℕ) (p : ℕ) → Apart set (p ∷ later) → Apart set later
Apart-tail set later p a q h = a q (is_set_later p later q h)

Apart-push : (set later : List ℕ) (p : ℕ) → ((q : ℕ) → is_set later q ≡ true → lit_var p ≡ lit_var q → ⊥) → Apart set (p ∷ later) → Apart (set ++ p ∷ []) later
Apart-push set later p other a q h =
    let rest = Apart-tail set later p a q h in (
      is_set-push set p q ∙ or_from _ _ rest.0 (ne_eqb p q (λ e. other q h (ap lit_var e))),
      is_set-push set p (negated q) ∙ or_from _ _ rest.1 (ne_eqb p (negated q) (λ e. other q h (ap lit_var e ∙ lit_var-negated q))),
    )

Leads-step : (clauses : List (List ℕ)) (front later cut reason hints : List ℕ) (p place : ℕ)
    → ((q : ℕ) → is_set later q ≡ true → lit_var p ≡ lit_var q → ⊥) → slice_get clauses place ≡ Some reason → IsUnitUnder front reason p
    → Leads clauses later cut hints → Leads clauses (p ∷ later) (resolvent cut p reason) ((place + 1) ∷ hints)
Leads-step clauses front later cut reason hints p place other at unit leads set f apart =
    let here = apart p (is_set_first p later) in (
      reason,
      named_place clauses place reason at,
      inr (
        p,
        unit_moves front set reason p unit (λ l h. f l (is_set-append _ _ l ∙ or_right _ _ h)) here.0 here.1,
        leads (set ++ p ∷ [])
            (λ l h. is_set-push set p (negated l) ∙ (elim (cases_eq l (negated p)) [
              | inl e ↦ or_right _ _ (eq-eqb _ _ (sym (negated-negated p) ∙ ap negated (sym e)))
              | inr ne ↦ or_left _ _ (f l (is_set-append _ _ l ∙ or_left _ _
                  (filter_mem (λ q. not (eqb q (negated p))) cut l h (not_from_false _ (ne_eqb l (negated p) ne)))))
            ]))
            (Apart-push set later p other apart),
      ),
    )

-- the literals of a false clause are a cut
pub CutState-start : (clauses : List (List ℕ)) (trail : List ℕ) (place : ℕ) (cut hints : List ℕ) → IsFalseAt clauses trail place
    → slice_get clauses place ≡ Some cut → hints ≡ (place + 1) ∷ [] → CutState clauses trail [] [] cut hints
CutState-start clauses trail place cut hints f at hints_is =
    let same : f.0 ≡ cut = some_same f.0 cut (sym f.1 ∙ at) in
    let P : List ℕ → Type 0 = IsFalseUnder trail in
    rw hints_is (record {
      falsified = let F : List ℕ → Type 0 = λ xs. FalseBy xs cut in subst F (sym (append-nil trail)) (FalseBy-from_false trail cut (subst P same f.2));
      leads = λ set fs apart. (cut, named_place clauses place cut at, inl (false_from_FalseBy set cut fs, refl));
    })

unit_clause : (clauses : List (List ℕ)) (set : List ℕ) (place u : ℕ) (clause : List ℕ) → IsUnitAt clauses set place u
    → slice_get clauses place ≡ Some clause → IsUnitUnder set clause u
unit_clause clauses set place u clause unit h =
    let P : List ℕ → Type 0 = λ c. IsUnitUnder set c u in
    subst P (some_same unit.0 clause (sym unit.1 ∙ h)) unit.2

-- one more literal of the front is resolved away
pub CutState-step : (clauses : List (List ℕ)) (front rest later cut next hints more : List ℕ) (p place : ℕ) (reason : List ℕ)
    → ((q : ℕ) → is_set later q ≡ true → lit_var p ≡ lit_var q → ⊥) → IsUnitAt clauses front place p → slice_get clauses place ≡ Some reason
    → ResolvedAt cut hints p place reason next more → CutState clauses (front ++ p ∷ []) rest later cut hints → CutState clauses front rest
    (p ∷ later) next more
CutState-step clauses front rest later cut next hints more p place reason other unit at resolved s =
    let here = unit_clause clauses front place p reason unit at in
    elim (cases_Bool (is_set cut (negated p))) [
      | inl there ↦
          let r = MatchBool-at_true _ _ there resolved in
          rw (r.0, r.1) (record {
            falsified = FalseBy-step cut front rest reason p s.falsified here;
            leads = rw (reverse-append hints ((place + 1) ∷ [])) (Leads-step clauses front later cut reason (reverse hints) p place other at here s.leads);
          })
      | inr absent ↦
          let r = MatchBool-at_false _ _ absent resolved in
          rw (r.0, r.1) (record {
            falsified = FalseBy-skip cut front rest p s.falsified absent;
            leads = λ set f apart. s.leads set f (Apart-tail set later p apart);
          })
    ]

-- a literal that is not resolved away stays
pub kept_at : (cut next hints more reason : List ℕ) (p place u : ℕ) → ResolvedAt cut hints p place reason next more → is_set cut u ≡ true
    → (u ≡ negated p → ⊥) → is_set next u ≡ true
kept_at cut next hints more reason p place u resolved h ne =
    elim (cases_Bool (is_set cut (negated p))) [
      | inl there ↦
          let r = MatchBool-at_true _ _ there resolved in
          ap (λ xs. is_set xs u) r.0 ∙ is_set-append _ _ u ∙ or_left _ _
          (filter_mem (λ q. not (eqb q (negated p))) cut u h (not_from_false _ (ne_eqb u (negated p) ne)))
      | inr absent ↦
          let r = MatchBool-at_false _ _ absent resolved in
          ap (λ xs. is_set xs u) r.0 ∙ h
    ]

-- the walk back from the end of the trail: the literals from `at` on have been resolved
pub walk_start : (clauses : List (List ℕ)) (trail cut hints : List ℕ) (n : ℕ) → n ≡ length trail → CutState clauses trail [] [] cut hints
    → CutState clauses (take n trail) [] (drop n trail) cut hints
walk_start clauses trail cut hints n e s =
    rw (take_all n trail (omega arith), drop_all n trail (omega arith)) s

pub walk_step : (clauses : List (List ℕ)) (trail : List ℕ) (at : ℕ) (cut next hints more reason : List ℕ) (p place : ℕ)
    → IsDistinct eqb (map lit_var trail) → at < length trail → p ≡ get_or trail at 0 → IsUnitAt clauses (take at trail) place p
    → slice_get clauses place ≡ Some reason → ResolvedAt cut hints p place reason next more → CutState clauses (take (at + 1) trail) []
    (drop (at + 1) trail) cut hints → CutState clauses (take at trail) [] (drop at trail) next more
walk_step clauses trail at cut next hints more reason p place d h p_is unit named resolved s =
    let front : take (at + 1) trail ≡ take at trail ++ p ∷ [] = take_more trail at 0 h ∙ ap (λ q. take at trail ++ q ∷ []) (sym p_is) in
    let back : drop at trail ≡ p ∷ drop (at + 1) trail = drop_more trail at 0 h ∙ ap (λ q. q ∷ drop (at + 1) trail) (sym p_is) in
    let F : List ℕ → Type 0 = λ xs. CutState clauses xs [] (drop (at + 1) trail) cut hints in
    let B : List ℕ → Type 0 = λ xs. CutState clauses (take at trail) [] xs next more in
    subst B (sym back)
    (CutState-step clauses (take at trail) [] (drop (at + 1) trail) cut next hints more p place reason
    (λ q t e. parts_apart (at + 1) trail d p q (ap (is_set (take (at + 1) trail)) p_is ∙ at_front trail at (at + 1) h (omega arith)) t e)
    unit named resolved (subst F front s))

-- resolving below a place: the literals from `at` to `end` have been resolved
pub record BelowState (clauses : List (List ℕ)) (trail : List ℕ) (end at : ℕ) (cut hints next more : List ℕ) : Type 0 where
  pub keeps : (u : ℕ) → is_set cut u ≡ true → is_set (take end trail) (negated u) ≡ false → is_set next u ≡ true
  pub state : (rest later : List ℕ) → OtherVars (take end trail) later → CutState clauses (take end trail) rest later cut hints
      → CutState clauses (take at trail) rest (drop at (take end trail) ++ later) next more

pub BelowState-start : (clauses : List (List ℕ)) (trail : List ℕ) (end : ℕ) (cut hints : List ℕ) → BelowState clauses trail end end cut hints cut hints
BelowState-start clauses trail end cut hints = record {
  keeps = λ u h f. h;
  state = λ rest later o s.
      let B : List ℕ → Type 0 = λ xs. CutState clauses (take end trail) rest xs cut hints in
      subst B (sym (ap (λ xs. xs ++ later) (drop_end end trail))) s;
}
  where
    drop_end : (n : ℕ) (xs : List ℕ) → drop n (take n xs) ≡ []
    drop_end zero xs = refl
    drop_end (suc n) [] = refl
    drop_end (suc n) (x ∷ xs) = drop_end n xs

pub BelowState-step : (clauses : List (List ℕ)) (trail : List ℕ) (end at : ℕ) (cut hints now them next more reason : List ℕ) (p place : ℕ)
    → IsDistinct eqb (map lit_var trail) → at < end → end ≤ length trail → p ≡ get_or trail at 0 → IsUnitAt clauses (take at trail) place p
    → slice_get clauses place ≡ Some reason → ResolvedAt now them p place reason next more → BelowState clauses trail end (at + 1) cut hints now them
    → BelowState clauses trail end at cut hints next more
BelowState-step clauses trail end at cut hints now them next more reason p place d lt within p_is unit named resolved b =
    let h : at < length trail = omega arith in
    let there : is_set (take end trail) p ≡ true = ap (is_set (take end trail)) p_is ∙ at_front trail at end h lt in
    record {
      keeps = λ u in_cut apart. kept_at now next them more reason p place u resolved (b.keeps u in_cut apart)
          (λ e. both_ways _ apart (ap (is_set (take end trail)) (ap negated e ∙ negated-negated p) ∙ there));
      state = λ rest later o s.
          let front : take (at + 1) trail ≡ take at trail ++ p ∷ [] = take_more trail at 0 h ∙ ap (λ q. take at trail ++ q ∷ []) (sym p_is) in
          let back : drop at (take end trail) ≡ p ∷ drop (at + 1) (take end trail) =
          drop_more (take end trail) at 0 (front_long at end trail lt h) ∙ ap (λ q. q ∷ drop (at + 1) (take end trail))
          (get_or-take end trail at 0 lt ∙ sym p_is) in
          let F : List ℕ → Type 0 = λ xs. CutState clauses xs rest (drop (at + 1) (take end trail) ++ later) now them in
          let B : List ℕ → Type 0 = λ xs. CutState clauses (take at trail) rest (xs ++ later) next more in
          subst B (sym back)
          (CutState-step clauses (take at trail) rest (drop (at + 1) (take end trail) ++ later) now next them more p place reason
          (λ q t e. elim (or_cases _ _ (sym (is_set-append (drop (at + 1) (take end trail)) later q) ∙ t)) [
            | inl early ↦ parts_apart (at + 1) trail d p q (ap (is_set (take (at + 1) trail)) p_is ∙ at_front trail at (at + 1) h (omega arith))
                (drop_front (at + 1) end trail q early) e
            | inr late ↦ o p q there late e
          ])
          unit named resolved (subst F front (b.state rest later o s)));
    }
  where
    front_long : (at end : ℕ) (xs : List ℕ) → at < end → at < length xs → at < length (take end xs)
    front_long at zero xs lt h = absurd (omega arith)
    front_long at (suc end) [] lt h = absurd (omega arith)
    front_long zero (suc end) (x ∷ xs) lt h = omega arith
    front_long (suc at) (suc end) (x ∷ xs) lt h = omega (arith, front_long at end xs (omega arith) (omega arith))

    drop_front : (n end : ℕ) (xs : List ℕ) (q : ℕ) → is_set (drop n (take end xs)) q ≡ true → is_set (drop n xs) q ≡ true
    drop_front zero end xs q t = is_set-take end xs q t
    drop_front (suc n) zero xs q t = absurd (false≢true (sym (is_set-nil q) ∙ t))
    drop_front (suc n) (suc end) [] q t = t
    drop_front (suc n) (suc end) (x ∷ xs) q t = drop_front n end xs q t

pub below_end : (clauses : List (List ℕ)) (trail : List ℕ) (end at : ℕ) (cut hints next more : List ℕ) → at ≡ 0
    → BelowState clauses trail end at cut hints next more → ResolvedBelow clauses trail end cut hints next more
below_end clauses trail end at cut hints next more e b =
    let P : ℕ → Type 0 = λ n. BelowState clauses trail end n cut hints next more in
    let at_zero = subst P e b in
    record { keeps = at_zero.keeps; state = at_zero.state }
