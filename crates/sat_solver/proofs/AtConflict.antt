-- What an engine's invariant gives at a conflict.
use Rattle.std.proofs.Common.{◌≡◌, ℕ, zero, suc, ◌+◌, ◌-◌, ◌%◌, ◌<◌, ◌≤◌, true, false, eqb, Some, List, [], ◌∷◌, ◌++◌, map, length, get_or, take}
use Rattle.std.proofs.Common.{drop, reverse, refl, sym, ap, ◌∙◌, subst, inl, inr, ◌⊎◌, arith}
use Rattle.std.specs.List.{IsDistinct}
use Rattle.std.proofs.lemmas.Bool.{false≢true, cases_Bool, cases_eq, cases_lt, or_cases, or_right, eqb-true, false_from_ne_true, both_ways}
use Rattle.std.proofs.lemmas.List.{take-take, get_or-take, length-take-le, take-append-drop}
use Rattle.std.proofs.lemmas.Option.{slice_get_within, get_or_from_slice_get}
use Rattle.proof_log.specs.Literals.{lit_var, negated, InVars}
use Rattle.proof_log.specs.Clauses.{is_set, IsNormal, HasComplements, IsUnitUnder, IsQuietUnder}
use Rattle.proof_log.specs.Derivations.{clause_named, LeadsToConflict}
use Rattle.proof_log.specs.declared.derivations.DerivStep.{DerivStep}
use Rattle.proof_log.proofs.LiteralLemmas.{negated_even, negated_odd, negated-negated, negated_other, lit_var-negated}
use Rattle.proof_log.proofs.Members.{is_set-nil, is_set-cons, is_set_first, is_set-take, map_mem, mem_map, All-from_members, member_from_All}
use Rattle.proof_log.proofs.Members.{distinct_var, normal_distinct}
use Rattle.sat_solver.specs.Searches.{Search, IsQuiet, IsUnitAt, search_of}
use Rattle.sat_solver.specs.Trails.{Trailed, Justified}
use Rattle.sat_solver.specs.Learning.{OthersFalse, IsLevel, IsLearnt}
use Rattle.sat_solver.specs.Engines.{IsSearch}
use Rattle.sat_solver.specs.Cuts.{FalseBy, OtherVars, CutState, IsUnitCut, ResolvedBelow, asserting_lits, IsAsserting}
use Rattle.sat_solver.proofs.OpenClauses.{open_only, two_open_quiet}
use Rattle.sat_solver.proofs.Trailing.{parts_apart, is_set-take_more, front_unset, at_front, at_back, at_not_front, in_left, in_right, in_either}
use Rattle.sat_solver.proofs.Levels.{IsSearch-back, IsSearch-add}

-- above the start of the present level each literal has its reason
pub justified_above : (clauses : List (List ℕ)) (t : Trailed) (starts : List ℕ) → IsSearch clauses t starts → 0 < length starts
    → Justified clauses (get_or starts (length starts - 1) 0 + 1) t.lits t.reasons
justified_above clauses t starts s some i low h =
    elim (s.justified i h) [
      | inr unit ↦ unit
      | inl w ↦ absurd (elim (cases_eq w.0 (length starts - 1)) [
        | inl e ↦ let P : ℕ → Type 0 = λ k. get_or starts k 0 ≡ i in let k = subst P e w.2 in omega arith
        | inr ne ↦ let o = s.ordered w.0 (length starts - 1) (omega (arith, w.1)) (omega arith) in omega (arith, w.2)
      ])
    ]

-- before the first level each has
pub justified_base : (clauses : List (List ℕ)) (t : Trailed) (starts : List ℕ) → IsSearch clauses t starts → 0 < length starts → (i : ℕ)
    → i < get_or starts 0 0 → IsUnitAt clauses (take i t.lits) (get_or t.reasons i 0) (get_or t.lits i 0)
justified_base clauses t starts s some i h =
    elim (s.justified i (omega (arith, s.within 0 some))) [
      | inr unit ↦ unit
      | inl w ↦ absurd (elim (cases_eq w.0 0) [
        | inl e ↦ let P : ℕ → Type 0 = λ k. get_or starts k 0 ≡ i in let k = subst P e w.2 in omega arith
        | inr ne ↦ let o = s.ordered 0 w.0 (omega arith) w.1 in omega (arith, w.2)
      ])
    ]

-- with no level each has
pub justified_all : (clauses : List (List ℕ)) (t : Trailed) → IsSearch clauses t [] → (i : ℕ) → i < length t.lits → IsUnitAt clauses (take i t.lits)
    (get_or t.reasons i 0) (get_or t.lits i 0)
justified_all clauses t s i h =
    elim (s.justified i h) [
      | inr unit ↦ unit
      | inl w ↦ absurd (omega (arith, w.1))
    ]

-- a level begins no later than a later one
pub starts_ascend : (clauses : List (List ℕ)) (t : Trailed) (starts : List ℕ) (j k : ℕ) → IsSearch clauses t starts → j ≤ k → k < length starts
    → get_or starts j 0 ≤ get_or starts k 0
starts_ascend clauses t starts j k s le h =
    elim (cases_lt j k) [
      | inl lt ↦ let o = s.ordered j k lt h in omega arith
      | inr ge ↦ let e : j ≡ k = omega arith in let q = ap (λ m. get_or starts m 0) e in omega arith
    ]

pub in_vars_back : (v l : ℕ) → InVars v (negated l) → InVars v l
in_vars_back v l h =
    elim (cases_eq (l % 2) 0) [
      | inl e ↦ let n = negated_even l e in (omega (arith, h), omega (arith, h))
      | inr o ↦ let n = negated_odd l o in (omega (arith, h), omega (arith, h))
    ]

-- where every clause is quiet no hints lead to a conflict
quiet_no_conflict : (clauses : List (List ℕ)) (set hints : List ℕ) → IsQuiet clauses set → LeadsToConflict clauses set hints → ⊥
quiet_no_conflict clauses set [] quiet leads = leads
quiet_no_conflict clauses set (h ∷ hs) quiet leads =
    let each = named_quiet h leads.0 leads.1 in
    elim leads.2 [ inl f ↦ each.0 f.0 | inr u ↦ each.1 u.0 u.1 ]
  where
    named_quiet : (n : ℕ) (c : List ℕ) → clause_named clauses n ≡ Some c → IsQuietUnder set c
    named_quiet zero c e = cc
    named_quiet (suc k) c e =
        let P : List ℕ → Type 0 = IsQuietUnder set in
        subst P (get_or_from_slice_get clauses k c c e) (quiet k c (slice_get_within clauses k c e))

-- a cut at the unit has the literal that is not false by the levels below
unit_inside : (clauses : List (List ℕ)) (trail : List ℕ) (start at : ℕ) (cut hints : List ℕ) → IsDistinct eqb (map lit_var trail)
    → IsQuiet clauses (take start trail) → IsUnitCut clauses trail start at cut hints → is_set cut (negated (get_or trail at 0)) ≡ true
unit_inside clauses trail start at cut hints d quiet uc =
    elim (cases_Bool (is_set cut (negated (get_or trail at 0)))) [
      | inl t ↦ t
      | inr f ↦ absurd (quiet_no_conflict clauses (take start trail) (reverse hints) quiet
          (uc.state.leads (take start trail)
          (λ l m. uc.others l m (λ e. both_ways _ f (ap (is_set cut) (sym e) ∙ m)))
          (λ q later. (
            false_from_ne_true _ (λ t. parts_apart (at + 1) trail d q q (is_set-take_more start (at + 1) trail (omega (arith, uc.from)) q t) later refl),
            false_from_ne_true _ (λ t. parts_apart (at + 1) trail d (negated q) q
                (is_set-take_more start (at + 1) trail (omega (arith, uc.from)) (negated q) t) later (lit_var-negated q)),
          ))))
    ]

-- what is between two places is behind the one and before the other
pub drop_take : (n m : ℕ) (xs : List ℕ) (q : ℕ) → is_set (drop n (take m xs)) q ≡ true → (is_set (drop n xs) q ≡ true) × (is_set (take m xs) q ≡ true)
drop_take zero m xs q h = (is_set-take m xs q h, h)
drop_take (suc n) zero xs q h = absurd (false≢true (sym (is_set-nil q) ∙ h))
drop_take (suc n) (suc m) [] q h = absurd (false≢true (sym (is_set-nil q) ∙ h))
drop_take (suc n) (suc m) (x ∷ xs) q h = let r = drop_take n m xs q h in (r.0, is_set-cons x (take m xs) q ∙ or_right _ _ r.1)

-- an asserting literal is in the trail, in no front that is resolved away, and after none that is
pub asserting_member : (trail : List ℕ) (base start at q : ℕ) → base ≤ start → start ≤ at → at < length trail
    → is_set (asserting_lits trail base start at) q ≡ true → (is_set (drop base trail) q ≡ true) × (is_set (take (at + 1) trail) q ≡ true)
    × ((is_set (take start trail) q ≡ true) ⊎ (q ≡ get_or trail at 0))
asserting_member trail base start at q low from within h =
    elim (in_either (drop base (take start trail)) (get_or trail at 0 ∷ []) q h) [
      | inl t ↦ let r = drop_take base start trail q t in (r.0, is_set-take_more start (at + 1) trail (omega arith) q r.1, inl r.1)
      | inr t ↦ elim (or_cases (eqb (get_or trail at 0) q) (is_set [] q) (sym (is_set-cons (get_or trail at 0) [] q) ∙ t)) [
        | inl e ↦
            let same : get_or trail at 0 ≡ q = eqb-true _ _ e in (
              ap (is_set (drop base trail)) (sym same) ∙ at_back trail at base within (omega arith),
              ap (is_set (take (at + 1) trail)) (sym same)
                  ∙ at_front trail at (at + 1) within (omega arith),
              inr (sym same),
            )
        | inr z ↦ absurd (both_ways _ (is_set-nil q) z)
      ]
    ]

pub asserting_apart : (trail : List ℕ) (base start at : ℕ) → IsDistinct eqb (map lit_var trail) → base ≤ start → start ≤ at → at < length trail
    → OtherVars (asserting_lits trail base start at) (take base trail ++ drop (at + 1) trail)
asserting_apart trail base start at d low from within p q hp hq e =
    let m = asserting_member trail base start at p low from within hp in
    elim (in_either (take base trail) (drop (at + 1) trail) q hq) [
      | inl early ↦ parts_apart base trail d q p early m.0 (sym e)
      | inr late ↦ parts_apart (at + 1) trail d p q m.1 late e
    ]

-- the cut of an asserting clause
pub asserting : (clauses : List (List ℕ)) (t : Trailed) (starts : List ℕ) (at : ℕ) (cut hints next more : List ℕ) → IsSearch clauses t starts
    → 0 < length starts → IsDistinct eqb (map lit_var t.lits) → IsUnitCut clauses t.lits (get_or starts (length starts - 1) 0) at cut hints
    → ResolvedBelow clauses t.lits (get_or starts 0 0) cut hints next more → IsAsserting clauses t.lits (get_or starts 0 0)
    (get_or starts (length starts - 1) 0) at next (reverse more)
asserting clauses t starts at cut hints next more s some d uc rb =
    let trail = t.lits in
    let base = get_or starts 0 0 in
    let top = length starts - 1 in
    let start = get_or starts top 0 in
    let low : base ≤ start = starts_ascend clauses t starts 0 top s (omega arith) (omega arith) in
    let front : take start trail ≡ take base trail ++ drop base (take start trail) =
    sym (take-append-drop base (take start trail)) ∙ ap (λ xs. xs ++ drop base (take start trail)) (take-take base start trail low) in
    let state : CutState clauses [] (asserting_lits trail base start at) (take base trail ++ drop (at + 1) trail) next more =
    rb.state (asserting_lits trail base start at) (drop (at + 1) trail)
    (λ p q early late e. parts_apart (at + 1) trail d p q (is_set-take_more base (at + 1) trail (omega (arith, uc.from)) p early) late e)
    (record {
      falsified = λ l m. elim (cases_eq l (negated (get_or trail at 0))) [
        | inl e ↦
            in_right (take base trail) (asserting_lits trail base start at) (negated l)
            (in_right (drop base (take start trail)) (get_or trail at 0 ∷ []) (negated l)
            (ap (is_set (get_or trail at 0 ∷ [])) (ap negated e ∙ negated-negated (get_or trail at 0)) ∙ is_set_first (get_or trail at 0) []))
        | inr ne ↦
            elim (in_either (take base trail) (drop base (take start trail)) (negated l) (sym (ap (λ xs. is_set xs (negated l)) front) ∙ uc.others l m ne)) [
              | inl g ↦ in_left (take base trail) (asserting_lits trail base start at) (negated l) g
              | inr r ↦ in_right (take base trail) (asserting_lits trail base start at) (negated l)
                  (in_left (drop base (take start trail)) (get_or trail at 0 ∷ []) (negated l) r)
            ]
      ];
      leads = uc.state.leads;
    }) in
    let apart = asserting_apart trail base start at d low uc.from uc.within in
    record {
      low = low;
      from = uc.from;
      within = uc.within;
      falsified = state.falsified;
      inside = rb.keeps (negated (get_or trail at 0)) (unit_inside clauses trail start at cut hints d (s.quiet top (omega arith)) uc)
          (at_not_front trail at base (negated (negated (get_or trail at 0))) d uc.within (omega (arith, uc.from))
          (lit_var-negated (negated (get_or trail at 0)) ∙ lit_var-negated (get_or trail at 0)));
      follows = λ c same. state.leads (map negated c)
          (λ l m. map_mem c l (same l ∙ m))
          (λ q h. (
            false_from_ne_true _ (λ y.
                let in_next = state.falsified (negated q) (sym (same (negated q)) ∙ mem_map c q y) in
                apart (negated (negated q)) q in_next h (lit_var-negated (negated q) ∙ lit_var-negated q)),
            false_from_ne_true _ (λ y.
                let in_next = state.falsified (negated (negated q)) (sym (same (negated (negated q))) ∙ mem_map c (negated q) y) in
                apart (negated (negated (negated q))) q in_next h (lit_var-negated (negated (negated q)) ∙ (lit_var-negated (negated q) ∙ lit_var-negated q))),
          ));
    }

-- a literal of an asserting cut is false
pub asserting_false : (clauses : List (List ℕ)) (trail : List ℕ) (base start at : ℕ) (cut hints : List ℕ)
    → IsAsserting clauses trail base start at cut hints → FalseBy trail cut
asserting_false clauses trail base start at cut hints a l m =
    is_set-take (at + 1) trail (negated l) (asserting_member trail base start at (negated l) a.low a.from a.within (a.falsified l m)).1

-- so no two of them are complements
pub asserting_consistent : (clauses : List (List ℕ)) (trail : List ℕ) (base start at : ℕ) (cut hints : List ℕ) → IsDistinct eqb (map lit_var trail)
    → IsAsserting clauses trail base start at cut hints → HasComplements cut → ⊥
asserting_consistent clauses trail base start at cut hints d a w =
    let f = asserting_false clauses trail base start at cut hints a in
    negated_other (negated w.0) (distinct_var trail d (negated (negated w.0)) (negated w.0) (f (negated w.0) w.2) (f w.0 w.1) (lit_var-negated (negated w.0)))

-- all but the unit are false by the levels below
pub asserting_others : (clauses : List (List ℕ)) (trail : List ℕ) (base start at : ℕ) (cut hints : List ℕ)
    → IsAsserting clauses trail base start at cut hints → OthersFalse (take start trail) cut (negated (get_or trail at 0))
asserting_others clauses trail base start at cut hints a l m ne =
    elim (asserting_member trail base start at (negated l) a.low a.from a.within (a.falsified l m)).2 [
      | inl early ↦ early
      | inr e ↦ absurd (ne (sym (negated-negated l) ∙ ap negated e))
    ]

pub learnt_from : (clauses : List (List ℕ)) (t : Trailed) (starts cut : List ℕ) (at level u : ℕ) (step : DerivStep) → IsSearch clauses t starts
    → 0 < length starts → IsDistinct eqb (map lit_var t.lits) → ((l : ℕ) → is_set t.lits l ≡ true → InVars t.vars l)
    → u ≡ negated (get_or t.lits at 0) → IsNormal step.clause → ((l : ℕ) → is_set step.clause l ≡ is_set cut l) → IsAsserting clauses t.lits
    (get_or starts 0 0) (get_or starts (length starts - 1) 0) at cut step.hints → IsLevel t.lits starts step.clause u level
    → IsLearnt (search_of t.vars clauses t.lits starts) step level u
learnt_from clauses t starts cut at level u step s some d in_vars u_is normal same a back =
    let trail = t.lits in
    let base = get_or starts 0 0 in
    let top = length starts - 1 in
    let start = get_or starts top 0 in
    let var_is : lit_var u ≡ lit_var (get_or trail at 0) = ap lit_var u_is ∙ lit_var-negated (get_or trail at 0) in
    record {
      normal = normal;
      in_vars = All-from_members (InVars t.vars) step.clause (λ l m.
          in_vars_back t.vars l (in_vars (negated l) (asserting_false clauses trail base start at cut step.hints a l (sym (same l) ∙ m))));
      follows = a.follows step.clause same;
      new = record {
        inside = ap (is_set step.clause) u_is ∙ (same (negated (get_or trail at 0)) ∙ a.inside);
        consistent = λ l m. false_from_ne_true _ (λ y. negated_other l (distinct_var trail d (negated l) l (is_set-take start trail (negated l) y)
            (is_set-take start trail l m) (lit_var-negated l)));
        others = λ l m ne. asserting_others clauses trail base start at cut step.hints a l (sym (same l) ∙ m) (λ e. ne (e ∙ sym u_is));
        unset = at_not_front trail at start u d a.within a.from var_is;
        complement_unset = at_not_front trail at start (negated u) d a.within a.from (lit_var-negated u ∙ var_is);
        quiet = s.quiet top (omega arith);
      };
      above_zero = λ l m. false_from_ne_true _ (λ y.
          parts_apart base trail d (negated l) (negated l) y (asserting_member trail base start at (negated l) a.low a.from a.within
          (a.falsified l (sym (same l) ∙ m))).0 refl);
      back = back;
    }

-- with no level a resolved cut is empty, and its hints lead to a conflict
pub refuted_from : (clauses : List (List ℕ)) (trail : List ℕ) (end : ℕ) (cut hints next more : List ℕ) → end ≡ length trail
    → CutState clauses trail [] [] cut hints → ResolvedBelow clauses trail end cut hints next more → LeadsToConflict clauses [] (reverse more)
refuted_from clauses trail end cut hints next more e s rb =
    let F : List ℕ → Type 0 = λ xs. CutState clauses xs [] [] cut hints in
    let state = rb.state [] [] (λ p q hp hq same. false≢true (sym (is_set-nil q) ∙ hq)) (subst F (sym (take_whole end trail e)) s) in
    state.leads [] (λ l m. absurd (false≢true (sym (is_set-nil (negated l)) ∙ state.falsified l m))) (λ p h. (is_set-nil p, is_set-nil (negated p)))
  where
    take_whole : (n : ℕ) (xs : List ℕ) → n ≡ length xs → take n xs ≡ xs
    take_whole zero [] h = refl
    take_whole zero (x ∷ xs) h = absurd (omega arith)
    take_whole (suc n) [] h = refl
    take_whole (suc n) (x ∷ xs) h = ap (λ ys. x ∷ ys) (take_whole n xs (omega arith))

-- an engine that went back and took the learnt clause
pub IsSearch-learn : (clauses : List (List ℕ)) (t b : Trailed) (starts : List ℕ) (step : DerivStep) (level u : ℕ) → IsSearch clauses t starts
    → IsLearnt (search_of t.vars clauses t.lits starts) step level u → b.vars ≡ t.vars → b.lits ≡ take (get_or starts level 0) t.lits ++ u ∷ []
    → b.reasons ≡ take (get_or starts level 0) t.reasons ++ length clauses ∷ [] → IsSearch (clauses ++ step.clause ∷ []) b (take level starts)
IsSearch-learn clauses t b starts step level u s learnt vars lits reasons =
    let n = get_or starts level 0 in
    let top = length starts - 1 in
    let c = step.clause in
    let m : Trailed = record { vars = t.vars; lits = take n t.lits; reasons = take n t.reasons } in
    let back = IsSearch-back clauses t m starts level n s learnt.back.below refl refl refl refl in
    let up : (k : ℕ) → k ≤ level → get_or starts k 0 ≤ get_or starts top 0 = λ k h. starts_ascend clauses t starts k top s
    (omega (arith, learnt.back.below)) (omega (arith, learnt.back.below)) in
    let unit : IsUnitUnder (take n t.lits) c u = (
      open_only (take n t.lits) c u (normal_distinct c learnt.normal) learnt.new.inside learnt.back.falsified
          (front_unset t.lits n (get_or starts top 0) (negated u) (up level (omega arith)) learnt.new.complement_unset),
      front_unset t.lits n (get_or starts top 0) u (up level (omega arith)) learnt.new.unset,
    ) in
    IsSearch-add clauses c m b (take level starts) u back learnt.in_vars
    (λ k w.
    let lt : k < level = omega (arith, length-take-le level starts (omega (arith, learnt.back.below))) in
    let o = s.ordered k level lt learnt.back.below in
    rw (get_or-take level starts k 0 lt, take-take (get_or starts k 0) n t.lits (omega arith))
    (two_open_quiet (take (get_or starts k 0) t.lits) c u learnt.new.inside
    (front_unset t.lits (get_or starts k 0) (get_or starts top 0) (negated u) (up k (omega arith)) learnt.new.complement_unset)
    (learnt.back.least k lt)))
    unit vars lits reasons

pub unit_unset_at : (clauses : List (List ℕ)) (t : Trailed) (starts : List ℕ) (step : DerivStep) (level u : ℕ) → IsSearch clauses t starts
    → IsLearnt (search_of t.vars clauses t.lits starts) step level u → (is_set (take (get_or starts level 0) t.lits) u ≡ false)
    × (is_set (take (get_or starts level 0) t.lits) (negated u) ≡ false)
unit_unset_at clauses t starts step level u s learnt =
    let below : get_or starts level 0 ≤ get_or starts (length starts - 1) 0 = starts_ascend clauses t starts level (length starts - 1) s
    (omega (arith, learnt.back.below)) (omega (arith, learnt.back.below)) in
    (front_unset t.lits _ _ u below learnt.new.unset, front_unset t.lits _ _ (negated u) below learnt.new.complement_unset)

-- what is learnt is the same of clauses and starts that are shown as slices
pub learnt_shown : (vars : ℕ) (clauses shown : List (List ℕ)) (lits starts heads : List ℕ) (step : DerivStep) (level u : ℕ) → shown ≡ clauses
    → heads ≡ starts → IsLearnt (search_of vars shown lits heads) step level u → IsLearnt (search_of vars clauses lits starts) step level u
learnt_shown vars clauses shown lits starts heads step level u e f learnt =
    let P : List (List ℕ) → Type 0 = λ cs. IsLearnt (search_of vars cs lits heads) step level u in
    let Q : List ℕ → Type 0 = λ hs. IsLearnt (search_of vars clauses lits hs) step level u in
    subst Q f (subst P e learnt)

-- the unit is of a variable of the engine
pub unit_in_vars : (s : Search) (step : DerivStep) (level u : ℕ) → IsLearnt s step level u → InVars s.vars u
unit_in_vars s step level u learnt = member_from_All (InVars s.vars) step.clause u learnt.in_vars learnt.new.inside
