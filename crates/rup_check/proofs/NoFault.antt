-- A derivation has no fault exactly where it refutes.
use Rattle.std.proofs.Common.{◌≡◌, ◌≢◌, Bool, true, eqb, get_or, ℕ, ◌+◌, ◌-◌, ◌<◌, ◌≤◌, Option, Some, None, Result, Ok, Err, IfErr, List, [], ◌∷◌}
use Rattle.std.proofs.Common.{◌++◌, map, length, take, drop, refl, sym, ap, ◌∙◌, inl, inr, arith}
use Rattle.std.specs.List.{slice_get}
use Rattle.std.specs.Option.{option_map}
use Rattle.std.proofs.lemmas.List.{drop_all, drop_more, take_more, length-take-le}
use Rattle.std.proofs.lemmas.Option.{slice_get-map}
use Rattle.std.proofs.lemmas.Bool.{eqb-true}
use Rattle.proof_log.specs.Literals.{negated}
use Rattle.proof_log.specs.Derivations.{clause_named, LeadsToConflict, known_clauses, AllFollow, EndsEmpty, Refutes}
use Rattle.proof_log.specs.Effects.{effect_of}
use Rattle.proof_log.specs.declared.effects.Effect.TheVariants.{Sets}
use Rattle.proof_log.specs.declared.formulas.Formula.{Formula}
use Rattle.proof_log.specs.declared.derivations.DerivStep.{DerivStep}
use Rattle.proof_log.specs.declared.derivations.Derivation.{Derivation}
use Rattle.proof_log.proofs.Effecting.{falsified_is, sets_is}
use Rattle.rup_check.specs.Faults.{fault_after_false, hints_fault, step_fault, steps_fault, IsFirstFault}
use Rattle.rup_check.specs.declared.faults.CheckFault.{CheckFault}
use Rattle.rup_check.specs.declared.faults.CheckFault.TheVariants.{HintMissing, HintNotUnit, NoConflict, NotEmpty, Memory}
use Rattle.rup_check.proofs.Membership.{SameMembers, hints_fault-same, cases_Option, cases_Effect}

-- after a false clause no hint may stand
after_false_is : (known : List (List ℕ)) (step : ℕ) (hints : List ℕ) (place : ℕ) → fault_after_false known step hints place ≡ None → hints ≡ []
after_false_is known step [] place h = refl
after_false_is known step (n ∷ ns) place h =
    elim (cases_Option (clause_named known n)) [
      | inl e ↦ let k = rw (e, fault_after_false) at h in cc
      | inr w ↦ let k = rw (w.1, fault_after_false) at h in cc
    ]

-- hints with no fault lead to a conflict
pub leads_from_no_fault : (known : List (List ℕ)) (step : ℕ) (hints set : List ℕ) (place : ℕ) → hints_fault known step set hints place ≡ None
    → LeadsToConflict known set hints
leads_from_no_fault known step [] set place h = cc
leads_from_no_fault known step (n ∷ ns) set place h =
    elim (cases_Option (clause_named known n)) [
      | inl e ↦ let k = rw (e, hints_fault) at h in cc
      | inr w ↦ let k = rw (w.1, hints_fault) at h in (
        w.0,
        w.1,
        elim (cases_Effect (effect_of set w.0)) [
          | inl e ↦ let m = rw e at k in cc
          | inr (inl e) ↦ let m = rw e at k in inl (falsified_is set _ e, after_false_is known step ns (place + 1) m)
          | inr (inr u) ↦ let m = rw u.1 at k in inr (u.0, sets_is set _ u.0 u.1, leads_from_no_fault known step ns (set ++ u.0 ∷ []) (place + 1) m)
        ],
      )
    ]

-- hints that lead to a conflict have no fault
pub no_fault_from_leads : (known : List (List ℕ)) (step : ℕ) (hints set : List ℕ) (place : ℕ) → LeadsToConflict known set hints
    → hints_fault known step set hints place ≡ None
no_fault_from_leads known step [] set place h = absurd h
no_fault_from_leads known step (n ∷ ns) set place h =
    rw (h.1, hints_fault) (elim h.2 [
      | inl f ↦ rw (f.0, f.1) refl
      | inr u ↦ rw (u.1.0, u.1.1) (no_fault_from_leads known step ns (set ++ u.0 ∷ []) (place + 1) u.2)
    ])

-- steps with no fault all follow
pub follow_from_no_fault : (formula : List (List ℕ)) (steps earlier : List DerivStep) → steps_fault formula earlier steps ≡ None
    → AllFollow formula earlier steps
follow_from_no_fault formula [] earlier h = tt
follow_from_no_fault formula (s ∷ ss) earlier h =
    elim (cases_Option (step_fault formula earlier s (length earlier + 1))) [
      | inl e ↦ let k = rw (e, steps_fault) at h in
          (leads_from_no_fault _ _ s.hints _ _ e, follow_from_no_fault formula ss (earlier ++ s ∷ []) k)
      | inr w ↦ let k = rw (w.1, steps_fault) at h in cc
    ]

-- steps that all follow have no fault
pub no_fault_from_follow : (formula : List (List ℕ)) (steps earlier : List DerivStep) → AllFollow formula earlier steps
    → steps_fault formula earlier steps ≡ None
no_fault_from_follow formula [] earlier follow = refl
no_fault_from_follow formula (s ∷ ss) earlier follow =
    rw (no_fault_from_leads (known_clauses formula earlier) (length earlier + 1) s.hints (map negated s.clause) 1 follow.0, steps_fault)
    (no_fault_from_follow formula ss (earlier ++ s ∷ []) follow.1)

-- what has a first fault does not refute
pub not_refuted : (formula : Formula) (derivation : Derivation) (e : CheckFault) → IsFirstFault formula derivation e → Refutes formula derivation → ⊥
not_refuted formula derivation NotEmpty h r = h.1 r.1
not_refuted formula derivation (HintMissing step) h r = let n = no_fault_from_follow _ _ _ r.0 in cc
not_refuted formula derivation (HintNotUnit step place) h r = let n = no_fault_from_follow _ _ _ r.0 in cc
not_refuted formula derivation (NoConflict step) h r = let n = no_fault_from_follow _ _ _ r.0 in cc
not_refuted formula derivation Memory h r = h

pub refused_from_fault : (formula : Formula) (derivation : Derivation) (r : Result (Unit {0}) CheckFault)
    → IfErr r (λ e. e ≢ Memory → IsFirstFault formula derivation e) → IfErr r (λ e. e ≢ Memory → Refutes formula derivation → ⊥)
refused_from_fault formula derivation (Ok x) h = tt
refused_from_fault formula derivation (Err e) h = λ m. not_refuted formula derivation e (h m)

-- a fault of the steps is a first fault
pub first_from_steps : (formula : Formula) (derivation : Derivation) (e : CheckFault) → e ≢ Memory → e ≢ NotEmpty
    → steps_fault formula.clauses [] derivation.steps ≡ Some e → IsFirstFault formula derivation e
first_from_steps formula derivation NotEmpty m n h = absurd (n refl)
first_from_steps formula derivation (HintMissing step) m n h = h
first_from_steps formula derivation (HintNotUnit step place) m n h = h
first_from_steps formula derivation (NoConflict step) m n h = h
first_from_steps formula derivation Memory m n h = absurd (m refl)

-- no step's fault is that the last clause is not empty
after_false_not_end : (known : List (List ℕ)) (step : ℕ) (hints : List ℕ) (place : ℕ) → fault_after_false known step hints place ≡ Some NotEmpty → ⊥
after_false_not_end known step [] place h = cc
after_false_not_end known step (n ∷ ns) place h =
    elim (cases_Option (clause_named known n)) [
      | inl e ↦ let k = rw (e, fault_after_false) at h in cc
      | inr w ↦ let k = rw (w.1, fault_after_false) at h in cc
    ]

hints_not_end : (known : List (List ℕ)) (step : ℕ) (hints set : List ℕ) (place : ℕ) → hints_fault known step set hints place ≡ Some NotEmpty → ⊥
hints_not_end known step [] set place h = cc
hints_not_end known step (n ∷ ns) set place h =
    elim (cases_Option (clause_named known n)) [
      | inl e ↦ let k = rw (e, hints_fault) at h in cc
      | inr w ↦ let k = rw (w.1, hints_fault) at h in
          elim (cases_Effect (effect_of set w.0)) [
            | inl e ↦ let m = rw e at k in cc
            | inr (inl e) ↦ let m = rw e at k in after_false_not_end known step ns (place + 1) m
            | inr (inr u) ↦ let m = rw u.1 at k in hints_not_end known step ns (set ++ u.0 ∷ []) (place + 1) m
          ]
    ]

pub steps_not_end : (formula : List (List ℕ)) (steps earlier : List DerivStep) → steps_fault formula earlier steps ≡ Some NotEmpty → ⊥
steps_not_end formula [] earlier h = cc
steps_not_end formula (s ∷ ss) earlier h =
    elim (cases_Option (step_fault formula earlier s (length earlier + 1))) [
      | inl e ↦ let k = rw (e, steps_fault) at h in steps_not_end formula ss (earlier ++ s ∷ []) k
      | inr w ↦ let k = rw (w.1, steps_fault) at h in
          hints_not_end _ _ s.hints _ _ (w.1 ∙ k)
    ]

-- the steps have no fault when none is left
pub no_fault_at_end : (formula : List (List ℕ)) (steps : List DerivStep) (at : ℕ) (o : Option CheckFault) → length steps ≤ at
    → steps_fault formula (take at steps) (drop at steps) ≡ o → o ≡ None
no_fault_at_end formula steps at o h inv = sym inv ∙ ap (steps_fault formula (take at steps)) (drop_all at steps h)

-- a hint that is unit sets its literal
pub hint_sets : (known : List (List ℕ)) (step : ℕ) (set next hints clause : List ℕ) (i h u : ℕ) (o : Option CheckFault) → i < length hints
    → h ≡ get_or hints i 0 → clause_named known h ≡ Some clause → Sets u ≡ effect_of set clause → SameMembers next (set ++ u ∷ [])
    → hints_fault known step set (drop i hints) (i + 1) ≡ o → hints_fault known step next (drop (i + 1) hints) (i + 1 + 1) ≡ o
hint_sets known step set next hints clause i h u o lt h_is named sets same inv =
    hints_fault-same known step next (set ++ u ∷ []) (drop (i + 1) hints) (i + 1 + 1) same
    ∙ sym (ap (λ hs. hints_fault known step set hs (i + 1)) (drop_more hints i 0 lt ∙ ap (λ q. q ∷ drop (i + 1) hints) (sym h_is))
    ∙ rw (named, hints_fault, ← sets) refl)
    ∙ inv

-- a fault of the step at that place is that of the steps
pub fault_of_step : (formula : List (List ℕ)) (steps : List DerivStep) (at : ℕ) (s : DerivStep) (e : CheckFault) → at < length steps
    → s ≡ get_or steps at s → step_fault formula (take at steps) s (at + 1) ≡ Some e → steps_fault formula (take at steps) (drop at steps) ≡ Some e
fault_of_step formula steps at s e lt s_is h =
    let number : step_fault formula (take at steps) s (length (take at steps) + 1) ≡ Some e =
    ap (λ n. step_fault formula (take at steps) s (n + 1)) (length-take-le at steps (omega arith)) ∙ h in
    ap (steps_fault formula (take at steps)) (drop_more steps at s lt ∙ ap (λ t. t ∷ drop (at + 1) steps) (sym s_is)) ∙ rw (number, steps_fault) refl

-- a step with no fault leaves the fault to the later ones
pub no_fault_of_step : (formula : List (List ℕ)) (steps : List DerivStep) (at : ℕ) (s : DerivStep) (o : Option CheckFault) → at < length steps
    → s ≡ get_or steps at s → step_fault formula (take at steps) s (at + 1) ≡ None → steps_fault formula (take at steps) (drop at steps) ≡ o
    → steps_fault formula (take (at + 1) steps) (drop (at + 1) steps) ≡ o
no_fault_of_step formula steps at s o lt s_is h inv =
    let number : step_fault formula (take at steps) s (length (take at steps) + 1) ≡ None =
    ap (λ n. step_fault formula (take at steps) s (n + 1)) (length-take-le at steps (omega arith)) ∙ h in
    ap (λ earlier. steps_fault formula earlier (drop (at + 1) steps)) (take_more steps at s lt ∙ ap (λ t. take at steps ++ t ∷ []) (sym s_is))
    ∙ sym (ap (steps_fault formula (take at steps)) (drop_more steps at s lt ∙ ap (λ t. t ∷ drop (at + 1) steps) (sym s_is)) ∙ rw (number, steps_fault) refl)
    ∙ inv

-- and the first fault
pub first_of_step : (formula : Formula) (derivation : Derivation) (at : ℕ) (s : DerivStep) (e : CheckFault) → at < length derivation.steps
    → s ≡ get_or derivation.steps at s → steps_fault formula.clauses (take at derivation.steps) (drop at derivation.steps) ≡ steps_fault
    formula.clauses [] derivation.steps → (e ≢ Memory → step_fault formula.clauses (take at derivation.steps) s (at + 1) ≡ Some e) → e ≢ Memory
    → IsFirstFault formula derivation e
first_of_step formula derivation at s e lt s_is inv h m =
    let whole : steps_fault formula.clauses [] derivation.steps ≡ Some e = sym inv ∙ fault_of_step formula.clauses derivation.steps at s e lt s_is (h m) in
    first_from_steps formula derivation e m
    (λ n. steps_not_end formula.clauses derivation.steps [] (whole ∙ ap Some n))
    whole

-- whether the last clause is empty
pub last_empty : (steps : List DerivStep) (s : DerivStep) (c : List ℕ) (b : Bool) → Some s ≡ slice_get steps (length steps - 1) → c ≡ s.clause
    → b ≡ eqb (length c) 0 → (b ≡ true → EndsEmpty steps) × (EndsEmpty steps → b ≡ true)
last_empty steps s c b last c_is b_is =
    let named : slice_get (map (λ t. t.clause) steps) (length steps - 1) ≡ Some c =
    slice_get-map (λ t. t.clause) steps (length steps - 1) ∙ ap (option_map (λ t. t.clause)) (sym last) ∙ ap Some (sym c_is) in (
      λ t. named ∙ ap Some (nil_from_length c (eqb-true (length c) 0 (sym b_is ∙ t))),
      λ e. let same : c ≡ [] = some_same c [] (sym named ∙ e) in b_is ∙ ap (λ xs. eqb (length xs) 0) same,
    )
  where
    nil_from_length : (xs : List ℕ) → length xs ≡ 0 → xs ≡ []
    nil_from_length [] h = refl
    nil_from_length (x ∷ xs) h = absurd (omega arith)

    some_same : (a b : List ℕ) → Some a ≡ Some b → a ≡ b
    some_same a b e = cc
