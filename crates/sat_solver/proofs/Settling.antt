-- Setting literals of unit clauses, and clauses that stay quiet.
use Rattle.std.proofs.Common.{◌≡◌, ℕ, ◌<◌, List, [], ◌∷◌, ◌++◌, length, get_or, take, refl, sym, ap, ◌∙◌, subst, inl, inr, arith}
use Rattle.std.proofs.lemmas.Option.{slice_get_read}
use Rattle.std.proofs.lemmas.Bool.{cond-false, cases_lt}
use Rattle.std.proofs.lemmas.List.{take_all, length-append, take-append-le, get_or_append_left, take_at, get_or_push, take-take, get_or-take}
use Rattle.proof_log.specs.Clauses.{is_set, IsQuietUnder}
use Rattle.proof_log.specs.Effects.{effect_of, effect_of_open}
use Rattle.proof_log.specs.declared.effects.Effect.TheVariants.{Falsified, Sets, Neither}
use Rattle.proof_log.proofs.Effecting.{falsified_is, sets_is}
use Rattle.sat_solver.specs.Searches.{IsUnitAt, IsFalseAt, Propagates}
use Rattle.sat_solver.specs.Trails.{Trailed, Justified, Extends}

pub neither_quiet : (set clause : List ℕ) → effect_of set clause ≡ Neither → IsQuietUnder set clause
neither_quiet set clause h = (
  λ f. let e = ap (effect_of_open set) f in cc,
  λ u w. let e = ap (effect_of_open set) w.0 in let k = cond-false (is_set set u) Neither (Sets u) w.1 in cc,
)

pub Extends-refl : (clauses : List (List ℕ)) (old : Trailed) → length old.reasons ≡ length old.lits → Extends clauses old old
Extends-refl clauses old paired = record {
  vars = refl;
  lits = sym (take_all (length old.lits) old.lits (omega arith));
  longer = omega arith;
  reasons = sym (take_all (length old.lits) old.reasons (omega arith));
  paired = paired;
  justified = λ i low h. absurd (omega arith);
}

pub Justified-push : (clauses : List (List ℕ)) (low : ℕ) (lits reasons : List ℕ) (place u : ℕ) → length reasons ≡ length lits
    → Justified clauses low lits reasons → IsUnitAt clauses lits place u → Justified clauses low (lits ++ u ∷ []) (reasons ++ place ∷ [])
Justified-push clauses low lits reasons place u paired j here i h k =
    elim (cases_lt i (length lits)) [
      | inl lt ↦
          rw (
            take-append-le i lits (u ∷ []) (omega arith),
            get_or_append_left reasons (place ∷ []) 0 i (omega arith),
            get_or_append_left lits (u ∷ []) 0 i lt,
          ) (j i h lt)
      | inr ge ↦
          let e : i ≡ length lits = omega (arith, length-append lits (u ∷ [])) in
          rw (e, take_at lits (u ∷ []) (length lits) refl, get_or_push reasons place 0 (length lits) paired, get_or_push lits u 0 (length lits) refl) here
    ]

pub Extends-push : (clauses : List (List ℕ)) (old now next : Trailed) (place u : ℕ) → Extends clauses old now → next.vars ≡ now.vars
    → next.lits ≡ now.lits ++ u ∷ [] → next.reasons ≡ now.reasons ++ place ∷ [] → IsUnitAt clauses now.lits place u → Extends clauses old next
Extends-push clauses old now next place u e vars lits reasons here = record {
  vars = vars ∙ e.vars;
  lits = rw lits (e.lits ∙ sym (take-append-le (length old.lits) now.lits (u ∷ []) e.longer));
  longer = omega (arith, e.longer, ap length lits, length-append now.lits (u ∷ []));
  reasons = rw reasons (e.reasons ∙ sym (take-append-le (length old.lits) now.reasons (place ∷ []) (omega (arith, e.longer, e.paired))));
  paired = omega (arith, e.paired, ap length lits, ap length reasons, length-append now.lits (u ∷ []), length-append now.reasons (place ∷ []));
  justified = rw (lits, reasons) (Justified-push clauses (length old.lits) now.lits now.reasons place u e.paired e.justified here);
}

pub Extends-trans : (clauses : List (List ℕ)) (old now new : Trailed) → Extends clauses old now → Extends clauses now new → Extends clauses old new
Extends-trans clauses old now new a b = record {
  vars = b.vars ∙ a.vars;
  lits = a.lits ∙ ap (take (length old.lits)) b.lits ∙ take-take (length old.lits) (length now.lits) new.lits a.longer;
  longer = omega (arith, a.longer, b.longer);
  reasons = a.reasons ∙ ap (take (length old.lits)) b.reasons ∙ take-take (length old.lits) (length now.lits) new.reasons a.longer;
  paired = b.paired;
  justified = λ i h k. elim (cases_lt i (length now.lits)) [
    | inl lt ↦
        let J : List ℕ → List ℕ → Type 0 = λ ls rs. IsUnitAt clauses (take i ls) (get_or rs i 0) (get_or ls i 0) in
        let at_now = a.justified i h lt in
        let moved : J (take (length now.lits) new.lits) (take (length now.lits) new.reasons) =
        let L : List ℕ → Type 0 = λ ls. J ls now.reasons in
        let R : List ℕ → Type 0 = λ rs. J (take (length now.lits) new.lits) rs in
        subst R b.reasons (subst L b.lits at_now) in
        rw (
          take-take i (length now.lits) new.lits (omega arith),
          get_or-take (length now.lits) new.reasons i 0 lt,
          get_or-take (length now.lits) new.lits i 0 lt,
        ) at moved
    | inr ge ↦ b.justified i ge k
  ];
}

pub unit_in : (clauses : List (List ℕ)) (set : List ℕ) (i : ℕ) (clause : List ℕ) (u : ℕ) → i < length clauses → clause ≡ get_or clauses i clause
    → effect_of set clause ≡ Sets u → IsUnitAt clauses set i u
unit_in clauses set i clause u h e s = (clause, slice_get_read clauses _ i clause refl h e, sets_is set _ u s)

pub false_at : (clauses : List (List ℕ)) (set : List ℕ) (i : ℕ) (clause : List ℕ) → i < length clauses → clause ≡ get_or clauses i clause
    → effect_of set clause ≡ Falsified → IsFalseAt clauses set i
false_at clauses set i clause h e s = (clause, slice_get_read clauses _ i clause refl h e, falsified_is set _ s)

-- what a caller sees of it
pub Propagates-from_extends : (clauses : List (List ℕ)) (old new : Trailed) → Extends clauses old new → Propagates clauses old.lits new.lits
Propagates-from_extends clauses old new e = record {
  longer = e.longer;
  kept = e.lits;
  units = λ i low high. (get_or new.reasons i 0, e.justified i low high);
}
