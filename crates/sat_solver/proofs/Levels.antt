-- The invariant of an engine through its steps.
use Rattle.std.proofs.Common.{◌≡◌, ℕ, ◌+◌, ◌-◌, ◌<◌, ◌≤◌, List, [], ◌∷◌, ◌++◌, length, get_or, take, refl, sym, ap, ◌∙◌, subst, inl, inr, arith}
use Rattle.std.proofs.lemmas.Bool.{cases_lt, cases_eq}
use Rattle.std.proofs.lemmas.List.{take-take, get_or-take, length-take-le, length_push, take-append-le, take_at, get_or_append_left, get_or_push}
use Rattle.std.proofs.lemmas.List.Elements.{All-push}
use Rattle.std.proofs.lemmas.Option.{slice_get_within}
use Rattle.std.specs.List.{All}
use Rattle.proof_log.specs.Clauses.{IsUnitUnder, IsQuietUnder}
use Rattle.proof_log.proofs.Named.{slice_get-append_left, slice_get-append_right}
use Rattle.proof_log.specs.Literals.{InVars}
use Rattle.sat_solver.specs.Searches.{AllInVars, IsQuiet, IsUnitAt}
use Rattle.sat_solver.specs.Trails.{Trailed, Extends}
use Rattle.sat_solver.specs.Engines.{IsSearch}

-- an earlier front of the literals is a front of the later ones
same_front : (clauses : List (List ℕ)) (old new : Trailed) (n : ℕ) → Extends clauses old new → n ≤ length old.lits → take n old.lits ≡ take n new.lits
same_front clauses old new n e h = ap (take n) e.lits ∙ take-take n (length old.lits) new.lits h

pub IsSearch-extends : (clauses : List (List ℕ)) (old new : Trailed) (starts : List ℕ) → IsSearch clauses old starts → Extends clauses old new
    → IsSearch clauses new starts
IsSearch-extends clauses old new starts s e = record {
  in_vars = let P : ℕ → Type 0 = λ v. AllInVars v clauses in subst P (sym e.vars) s.in_vars;
  ordered = s.ordered;
  deep = s.deep;
  within = λ k h. omega (arith, s.within k h, e.longer);
  quiet = λ k h. let P : List ℕ → Type 0 = IsQuiet clauses in subst P (same_front clauses old new (get_or starts k 0) e (omega (arith, s.within k h)))
      (s.quiet k h);
  paired = e.paired;
  justified = λ i h. elim (cases_lt i (length old.lits)) [
    | inl lt ↦ elim (s.justified i lt) [
      | inl start ↦ inl start
      | inr unit ↦ inr (moved i lt unit)
    ]
    | inr ge ↦ inr (e.justified i ge h)
  ];
}
  where
    moved : (i : ℕ) → i < length old.lits → IsUnitAt clauses (take i old.lits) (get_or old.reasons i 0) (get_or old.lits i 0)
        → IsUnitAt clauses (take i new.lits) (get_or new.reasons i 0) (get_or new.lits i 0)
    moved i lt unit =
        let r : get_or old.reasons i 0 ≡ get_or new.reasons i 0 = ap (λ rs. get_or rs i 0) e.reasons ∙ get_or-take (length old.lits) new.reasons i 0 lt in
        let l : get_or old.lits i 0 ≡ get_or new.lits i 0 = ap (λ ls. get_or ls i 0) e.lits ∙ get_or-take (length old.lits) new.lits i 0 lt in
        let A : List ℕ → Type 0 = λ ls. IsUnitAt clauses ls (get_or new.reasons i 0) (get_or new.lits i 0) in
        let B : ℕ → Type 0 = λ q. IsUnitAt clauses (take i old.lits) q (get_or new.lits i 0) in
        let C : ℕ → Type 0 = λ q. IsUnitAt clauses (take i old.lits) (get_or old.reasons i 0) q in
        subst A (same_front clauses old new i e (omega arith)) (subst B r (subst C l unit))

-- going back to the end of a level
pub IsSearch-back : (clauses : List (List ℕ)) (a b : Trailed) (starts : List ℕ) (level n : ℕ) → IsSearch clauses a starts → level < length starts
    → n ≡ get_or starts level 0 → b.vars ≡ a.vars → b.lits ≡ take n a.lits → b.reasons ≡ take n a.reasons → IsSearch clauses b (take level starts)
IsSearch-back clauses a b starts level n s below n_is vars lits reasons =
    let few : n < length a.lits = omega (arith, s.within level below) in
    let long : length b.lits ≡ n = ap length lits ∙ length-take-le n a.lits (omega arith) in
    let levels : length (take level starts) ≡ level = length-take-le level starts (omega arith) in
    record {
      in_vars = let P : ℕ → Type 0 = λ v. AllInVars v clauses in subst P (sym vars) s.in_vars;
      ordered = λ j k h w. rw (get_or-take level starts j 0 (omega arith), get_or-take level starts k 0 (omega arith)) (s.ordered j k h (omega arith));
      deep = λ k w. rw (get_or-take level starts k 0 (omega arith)) (s.deep k (omega arith));
      within = λ k w. rw (get_or-take level starts k 0 (omega arith)) (let o = s.ordered k level (omega arith) below in omega arith);
      quiet = λ k w.
          let o = s.ordered k level (omega arith) below in
          let P : List ℕ → Type 0 = IsQuiet clauses in
          rw (get_or-take level starts k 0 (omega arith), lits)
          (subst P (sym (take-take (get_or starts k 0) n a.lits (omega arith))) (s.quiet k (omega arith)));
      paired = omega (arith, long, ap length reasons, length-take-le n a.reasons (omega (arith, s.paired)));
      justified = λ i h. elim (s.justified i (omega arith)) [
        | inl w ↦ inl (w.0, early i w.0 (omega arith) w.1 w.2, get_or-take level starts w.0 0 (before i w.0 (omega arith) w.1 w.2) ∙ w.2)
        | inr unit ↦ inr (moved i (omega arith) unit)
      ];
    }
  where
    before : (i k : ℕ) → i < n → k < length starts → get_or starts k 0 ≡ i → k < level
    before i k h w e = elim (cases_lt k level) [
      | inl lt ↦ lt
      | inr ge ↦ absurd (elim (cases_eq k level) [
        | inl same ↦ let q = ap (λ m. get_or starts m 0) same in omega arith
        | inr ne ↦ let o = s.ordered level k (omega arith) w in omega arith
      ])
    ]

    early : (i k : ℕ) → i < n → k < length starts → get_or starts k 0 ≡ i → k < length (take level starts)
    early i k h w e = let b = before i k h w e in omega (arith, length-take-le level starts (omega arith))

    moved : (i : ℕ) → i < n → IsUnitAt clauses (take i a.lits) (get_or a.reasons i 0) (get_or a.lits i 0) → IsUnitAt clauses (take i b.lits)
        (get_or b.reasons i 0) (get_or b.lits i 0)
    moved i h unit =
        rw (lits, reasons, take-take i n a.lits (omega arith), get_or-take n a.reasons i 0 h, get_or-take n a.lits i 0 h) unit

-- opening a level with a decision, where every clause is quiet
pub IsSearch-decide : (clauses : List (List ℕ)) (a b : Trailed) (starts : List ℕ) (d r : ℕ) → IsSearch clauses a starts → IsQuiet clauses a.lits
    → b.vars ≡ a.vars → b.lits ≡ a.lits ++ d ∷ [] → b.reasons ≡ a.reasons ++ r ∷ [] → IsSearch clauses b (starts ++ length a.lits ∷ [])
IsSearch-decide clauses a b starts d r s quiet vars lits reasons =
    let long : length b.lits ≡ length a.lits + 1 = ap length lits ∙ length_push a.lits d in
    let levels : length (starts ++ length a.lits ∷ []) ≡ length starts + 1 = length_push starts (length a.lits) in
    record {
      in_vars = let P : ℕ → Type 0 = λ v. AllInVars v clauses in subst P (sym vars) s.in_vars;
      ordered = λ j k h w. elim (cases_lt k (length starts)) [
        | inl lt ↦ rw (old j (omega arith), old k lt) (s.ordered j k h lt)
        | inr ge ↦ let e : k ≡ length starts = omega arith in rw (e, last) (rw (old j (omega arith)) (s.within j (omega arith)))
      ];
      deep = λ k w. elim (cases_lt k (length starts)) [
        | inl lt ↦ rw (old k lt) (s.deep k lt)
        | inr ge ↦ let e : k ≡ length starts = omega arith in rw (e, last) deep_end
      ];
      within = λ k w. elim (cases_lt k (length starts)) [
        | inl lt ↦ rw (old k lt) (omega (arith, s.within k lt))
        | inr ge ↦ let e : k ≡ length starts = omega arith in rw (e, last) (omega arith)
      ];
      quiet = λ k w. elim (cases_lt k (length starts)) [
        | inl lt ↦ rw (old k lt, lits, take-append-le (get_or starts k 0) a.lits (d ∷ []) (omega (arith, s.within k lt))) (s.quiet k lt)
        | inr ge ↦ let e : k ≡ length starts = omega arith in rw (e, last, lits, take_at a.lits (d ∷ []) (length a.lits) refl) quiet
      ];
      paired = omega (arith, long, ap length reasons, length_push a.reasons r, s.paired);
      justified = λ i h. elim (cases_lt i (length a.lits)) [
        | inl lt ↦ elim (s.justified i lt) [
          | inl w ↦ inl (w.0, omega (arith, w.1), old w.0 w.1 ∙ w.2)
          | inr unit ↦ inr (rw (
            lits,
            reasons,
            take-append-le i a.lits (d ∷ []) (omega arith),
            get_or_append_left a.reasons (r ∷ []) 0 i
                (omega (arith, s.paired)),
            get_or_append_left a.lits (d ∷ []) 0 i lt,
          ) unit)
        ]
        | inr ge ↦ inl (length starts, omega arith, last ∙ omega arith)
      ];
    }
  where
    old : (k : ℕ) → k < length starts → get_or (starts ++ length a.lits ∷ []) k 0 ≡ get_or starts k 0
    old k h = get_or_append_left starts (length a.lits ∷ []) 0 k h

    last : get_or (starts ++ length a.lits ∷ []) (length starts) 0 ≡ length a.lits
    last = get_or_push starts (length a.lits) 0 (length starts) refl

    deep_end : length starts ≤ length a.lits
    deep_end = elim (cases_lt 0 (length starts)) [
      | inl some ↦ omega (arith, s.deep (length starts - 1) (omega arith), s.within (length starts - 1) (omega arith))
      | inr none ↦ omega arith
    ]

-- one more clause, unit now and quiet at each earlier level
pub IsSearch-add : (clauses : List (List ℕ)) (clause : List ℕ) (a b : Trailed) (starts : List ℕ) (u : ℕ) → IsSearch clauses a starts
    → All (InVars a.vars) clause → ((k : ℕ) → k < length starts → IsQuietUnder (take (get_or starts k 0) a.lits) clause) → IsUnitUnder a.lits clause u
    → b.vars ≡ a.vars → b.lits ≡ a.lits ++ u ∷ [] → b.reasons ≡ a.reasons ++ length clauses ∷ [] → IsSearch (clauses ++ clause ∷ []) b starts
IsSearch-add clauses clause a b starts u s vars_in quiet_at unit vars lits reasons =
    let long : length b.lits ≡ length a.lits + 1 = ap length lits ∙ length_push a.lits u in
    record {
      in_vars =
          let P : ℕ → Type 0 = λ v. AllInVars v (clauses ++ clause ∷ []) in
          subst P (sym vars) (All-push (λ c. All (InVars a.vars) c) clauses clause s.in_vars vars_in);
      ordered = s.ordered;
      deep = s.deep;
      within = λ k w. omega (arith, s.within k w);
      quiet = λ k w.
          rw (lits, take-append-le (get_or starts k 0) a.lits (u ∷ []) (omega (arith, s.within k w)))
          (All-push (λ c. IsQuietUnder (take (get_or starts k 0) a.lits) c) clauses clause (s.quiet k w) (quiet_at k w));
      paired = omega (arith, long, ap length reasons, length_push a.reasons (length clauses), s.paired);
      justified = λ i h. elim (cases_lt i (length a.lits)) [
        | inl lt ↦ elim (s.justified i lt) [
          | inl w ↦ inl w
          | inr w ↦ inr (rw (
            lits,
            reasons,
            take-append-le i a.lits (u ∷ []) (omega arith),
            get_or_append_left a.reasons (length clauses ∷ []) 0 i
                (omega (arith, s.paired)),
            get_or_append_left a.lits (u ∷ []) 0 i lt,
          )
              (w.0, slice_get-append_left clauses (clause ∷ []) (get_or a.reasons i 0) (slice_get_within clauses _ w.0 w.1) ∙ w.1, w.2))
        ]
        | inr ge ↦
            let e : i ≡ length a.lits = omega arith in
            inr (rw (
              e,
              lits,
              reasons,
              take_at a.lits (u ∷ []) (length a.lits) refl,
              get_or_push a.reasons (length clauses) 0
                  (length a.lits) s.paired,
              get_or_push a.lits u 0 (length a.lits) refl,
            )
            (clause, slice_get-append_right clauses (clause ∷ []) (length clauses) 0 (omega arith), unit))
      ];
    }
