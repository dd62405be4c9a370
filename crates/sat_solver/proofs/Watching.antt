-- Watches of clauses, through each step of a walk.
use Rattle.std.specs.declared.alloc.Global.{Global}
use Rattle.std.proofs.Common.{◌≡◌, ℕ, ◌+◌, ◌*◌, ◌%◌, ◌<◌, ◌≤◌, Bool, true, false, not, ◌||◌, eqb, List, [], ◌∷◌, ◌++◌, map, length, get_or, set, take}
use Rattle.std.proofs.Common.{refl, sym, ap, ◌∙◌, subst, inl, inr, arith, Vec}
use Rattle.std.specs.List.{All, IsDistinct}
use Rattle.std.proofs.lemmas.Bool.{false≢true, cases_Bool, cases_eq, cases_lt, or_cases, eqb-true, ne_eqb, both_ways, false_from_ne_true, cond-true}
use Rattle.std.proofs.lemmas.Bool.{not_from_false}
use Rattle.std.proofs.lemmas.List.{length-set, get_or-set_same, get_or-set_other, take-append-le, take_more, take-take, take_all, ext_get_or}
use Rattle.std.proofs.lemmas.List.{get_or_default, length_push}
use Rattle.std.proofs.lemmas.Option.{slice_get_read}
use Rattle.proof_log.specs.Literals.{lit_var, negated, InVars}
use Rattle.proof_log.specs.Clauses.{is_set, IsNormal, IsQuietUnder}
use Rattle.proof_log.proofs.LiteralLemmas.{negated_even, negated_odd, negated-negated, negated_other, lit_var-negated}
use Rattle.proof_log.proofs.Members.{is_set-nil, is_set-cons, is_set-append, is_set-push, is_set-take, is_set_first, normal_distinct, distinct_var}
use Rattle.proof_log.proofs.Members.{member_from_All}
use Rattle.watch_lists.specs.Watchings.{Watching}
use Rattle.sat_solver.specs.Searches.{AllInVars, IsQuiet, IsUnitAt, IsFalseAt}
use Rattle.sat_solver.specs.Trails.{Trailed, Extends}
use Rattle.sat_solver.specs.Learning.{OthersFalse}
use Rattle.watch_lists.proofs.Listing.{zero_more}
use Rattle.sat_solver.specs.declared.propagation.Queue.{Queue}
use Rattle.sat_solver.specs.declared.propagation.Visit.TheVariants.{Next, Conflict}
use Rattle.sat_solver.specs.Watches.{watched, clause_at, AreWatches, Halves, KeepsHalves, HasTrue, CanWalk, Walks, AreWalked, VisitMeans, IsQueued}
use Rattle.sat_solver.specs.Watches.{Settles, HasMore}
use Rattle.sat_solver.proofs.OpenClauses.{false_from_FalseBy, open_only, only, true_quiet, two_quiet}
use Rattle.sat_solver.proofs.Settling.{Extends-refl, Extends-push, Extends-trans}

-- the other watch of a clause is of the same place, and another one
pub other_near : (n : ℕ) → (negated n ≤ n + 1) × (n ≤ negated n + 1)
other_near n = elim (cases_eq (n % 2) 0) [
  | inl e ↦ let k = negated_even n e in (omega arith, omega arith)
  | inr o ↦ let k = negated_odd n o in (omega arith, omega arith)
]

-- a watch on a literal is one of a clause
pub place_within : (clauses : List (List ℕ)) (on : List ℕ) (n : ℕ) → AreWatches clauses on → 0 < watched on n → lit_var n < length clauses
place_within clauses on n w some = elim (cases_lt n (2 * length clauses)) [
  | inl lt ↦ omega arith
  | inr ge ↦ absurd (omega (arith, w.spare n ge))
]

-- and there is an entry for the clause's other watch
pub other_within : (clauses : List (List ℕ)) (on : List ℕ) (n : ℕ) → AreWatches clauses on → 0 < watched on n → negated n < length on
other_within clauses on n w some =
    let p = place_within clauses on (negated n) w (w.both n some) in
    omega (arith, p, w.room)

-- a watched literal is of the formula's variables
pub watched_in_vars : (vars : ℕ) (clauses : List (List ℕ)) (on : List ℕ) (n : ℕ) → AllInVars vars clauses → AreWatches clauses on → 0 < watched on n
    → InVars vars (watched on n)
watched_in_vars vars clauses on n in_vars w some =
    member_from_All (InVars vars) (clause_at clauses (lit_var n)) (watched on n) (in_vars (lit_var n) [] (place_within clauses on n w some)) (w.inside n some)

-- of a variable one literal is set at most
pub not_both : (lits : List ℕ) (f : ℕ) → IsDistinct eqb (map lit_var lits) → is_set lits (negated f) ≡ true → is_set lits f ≡ false
not_both lits f d h = false_from_ne_true _ (λ t. negated_other f (distinct_var lits d (negated f) f h t (lit_var-negated f)))

pub still_set : (clauses : List (List ℕ)) (old new : Trailed) (q : ℕ) → Extends clauses old new → is_set old.lits q ≡ true → is_set new.lits q ≡ true
still_set clauses old new q e h = is_set-take (length old.lits) new.lits q (ap (λ xs. is_set xs q) (sym e.lits) ∙ h)

pub HasTrue-more : (clauses : List (List ℕ)) (old new : Trailed) (clause : List ℕ) → Extends clauses old new → HasTrue old.lits clause → HasTrue new.lits clause
HasTrue-more clauses old new clause e h = (h.0, h.1, still_set clauses old new h.0 e h.2)

-- one watch is on x now
pub record IsPut (on new : List ℕ) (n x : ℕ) : Type 0 where
  pub here : watched new n ≡ x
  pub others : (m : ℕ) → (m ≡ n → ⊥) → watched new m ≡ watched on m
  pub long : length new ≡ length on

pub put_from : (on new : List ℕ) (n x : ℕ) → n < length on → new ≡ set (set on n 0) n x → IsPut on new n x
put_from on new n x h e = rw e (record {
  here = get_or-set_same (set on n 0) n x 0 (omega (arith, length-set on n 0));
  others = λ m ne. get_or-set_other (set on n 0) n m x 0 ne ∙ get_or-set_other on n m 0 0 ne;
  long = length-set (set on n 0) n x ∙ length-set on n 0;
})

pub put_same : (on new : List ℕ) (n x : ℕ) → IsPut on new n x → x ≡ watched on n → new ≡ on
put_same on new n x p e = ext_get_or 0 new on p.long (λ m h. elim (cases_eq m n) [
  | inl s ↦ ap (watched new) s ∙ (p.here ∙ (e ∙ ap (watched on) (sym s)))
  | inr ne ↦ p.others m ne
])

pub AreWatches-put : (clauses : List (List ℕ)) (on new : List ℕ) (n x : ℕ) → AreWatches clauses on → IsPut on new n x → 0 < watched on n
    → is_set (clause_at clauses (lit_var n)) x ≡ true → (x ≡ watched on (negated n) → ⊥) → 0 < x → AreWatches clauses new
AreWatches-put clauses on new n x w p some inside ne pos = record {
  room = omega (arith, w.room, p.long);
  spare = λ m h. elim (cases_eq m n) [
    | inl e ↦ absurd (omega (arith, some, ap (watched on) e, w.spare m h))
    | inr o ↦ p.others m o ∙ w.spare m h
  ];
  inside = λ m h. elim (cases_eq m n) [
    | inl e ↦
        let P : ℕ → Type 0 = λ i. is_set (clause_at clauses (lit_var i)) (watched new i) ≡ true in
        subst P (sym e) (ap (is_set (clause_at clauses (lit_var n))) p.here ∙ inside)
    | inr o ↦ ap (is_set (clause_at clauses (lit_var m))) (p.others m o) ∙ w.inside m (omega (arith, h, p.others m o))
  ];
  both = λ m h. elim (cases_eq (negated m) n) [
    | inl e ↦ omega (arith, ap (watched new) e, p.here, pos)
    | inr far ↦ elim (cases_eq m n) [
      | inl e ↦ omega (arith, p.others (negated m) far, w.both m (omega (arith, some, ap (watched on) e)))
      | inr o ↦ omega (arith, p.others (negated m) far, w.both m (omega (arith, h, p.others m o)))
    ]
  ];
  apart = λ m h same. elim (cases_eq m n) [
    | inl e ↦ ne (sym p.here ∙ (ap (watched new) (sym e) ∙ (same ∙ (p.others (negated m) (λ k. negated_other n (ap negated (sym e) ∙ k))
        ∙ ap (λ i. watched on (negated i)) e))))
    | inr o ↦ elim (cases_eq (negated m) n) [
      | inl e ↦ ne (sym p.here ∙ (ap (watched new) (sym e) ∙ (sym same ∙ (p.others m o ∙ ap (watched on) (sym (negated-negated m) ∙ ap negated e)))))
      | inr far ↦ w.apart m (omega (arith, h, p.others m o)) (sym (p.others m o) ∙ (same ∙ p.others (negated m) far))
    ]
  ];
  short = λ k h z. elim (cases_eq (2 * k) n) [
    | inl e ↦ absurd (omega (arith, ap (watched new) e, p.here, pos, z))
    | inr o ↦ w.short k h (sym (p.others (2 * k) o) ∙ z)
  ];
}

-- a watch leaves a false literal for one that is not false: nothing is said of it, nor of its partner, that was not so before
pub halves_put : (on new first second lits : List ℕ) (n x : ℕ) → IsPut on new n x → ((q : ℕ) → is_set first q ≡ true → is_set lits q ≡ true)
    → ((q : ℕ) → is_set second q ≡ true → is_set lits q ≡ true)
    → is_set lits (watched on n) ≡ false → is_set lits (negated x) ≡ false → (m : ℕ)
    → ((m ≡ n → ⊥) → 0 < watched on m → is_set first (negated (watched on m)) ≡ true → is_set second (watched on (negated m)) ≡ true)
    → 0 < watched new m → is_set first (negated (watched new m)) ≡ true → is_set second (watched new (negated m)) ≡ true
halves_put on new first second lits n x p f_in s_in false_n open_x m before some h =
    elim (cases_eq m n) [
      | inl e ↦ absurd (both_ways _ open_x (f_in (negated x) (ap (λ q. is_set first (negated q)) (sym (ap (watched new) e ∙ p.here)) ∙ h)))
      | inr o ↦
          let t = before o (omega (arith, some, p.others m o)) (ap (λ q. is_set first (negated q)) (sym (p.others m o)) ∙ h) in
          elim (cases_eq (negated m) n) [
            | inl e ↦ absurd (both_ways _ false_n (s_in (watched on n) (ap (λ i. is_set second (watched on i)) (sym e) ∙ t)))
            | inr far ↦ ap (is_set second) (p.others (negated m) far) ∙ t
          ]
    ]

pub KeepsHalves-put : (lits on new : List ℕ) (n x : ℕ) → IsPut on new n x → is_set lits (watched on n) ≡ false → is_set lits (negated x) ≡ false
    → KeepsHalves lits on lits new
KeepsHalves-put lits on new n x p false_n open_x d s d_few s_few before m =
    halves_put on new (take d lits) (take s lits) lits n x p (λ q. is_set-take d lits q) (λ q. is_set-take s lits q) false_n open_x m (λ o. before m)

pub KeepsHalves-set : (lits on : List ℕ) (u : ℕ) → KeepsHalves lits on (lits ++ u ∷ []) on
KeepsHalves-set lits on u d s d_few s_few before n some h =
    ap (λ xs. is_set xs (watched on (negated n))) (take-append-le s lits (u ∷ []) s_few)
    ∙ before n some (ap (λ xs. is_set xs (negated (watched on n))) (sym (take-append-le d lits (u ∷ []) d_few)) ∙ h)

pub KeepsHalves-refl : (lits on : List ℕ) → KeepsHalves lits on lits on
KeepsHalves-refl lits on d s d_few s_few before = before

pub KeepsHalves-trans : (a on_a b on_b c on_c : List ℕ) → length a ≤ length b → KeepsHalves a on_a b on_b → KeepsHalves b on_b c on_c
    → KeepsHalves a on_a c on_c
KeepsHalves-trans a on_a b on_b c on_c longer f g d s d_few s_few before = g d s (omega arith) (omega arith) (f d s d_few s_few before)

-- what was walked so far stays so
pub Halves-kept : (lits on new new_on : List ℕ) (done : ℕ) → KeepsHalves lits on new new_on → done ≤ length lits → Halves on (take done lits) lits
    → Halves new_on (take done new) new
Halves-kept lits on new new_on done k few before n some h =
    let whole : Halves on (take done lits) (take (length lits) lits) = λ m p q. ap (λ xs. is_set xs (watched on (negated m)))
    (take_all (length lits) lits (omega arith)) ∙ before m p q in
    is_set-take (length lits) new (watched new_on (negated n)) (k done (length lits) few (omega arith) whole n some h)

-- the watch n has been taken, and put on x
pub record IsRehung (w new : Watching) (n x : ℕ) : Type 0 where
  pub within : n < length w.literals
  pub on : 0 < watched w.literals n
  pub gone : is_set new.waiting n ≡ false
  pub first : w.waiting ≡ n ∷ new.waiting
  pub put : IsPut w.literals new.literals n x
  pub limit : new.limit ≡ w.limit

still_waits : (w new : Watching) (n x m : ℕ) → IsRehung w new n x → is_set new.waiting m ≡ true → (is_set w.waiting m ≡ true) × (m ≡ n → ⊥)
still_waits w new n x m r h = (
  ap (λ xs. is_set xs m) r.first ∙ (is_set-cons n new.waiting m ∙ right (eqb n m) h),
  λ e. both_ways _ r.gone (ap (is_set new.waiting) (sym e) ∙ h),
)
  where
    right : (a : Bool) {b : Bool} → b ≡ true → (a || b) ≡ true
    right true e = refl
    right false e = e

-- who does not wait now did not wait before, or is that watch
not_waiting : (w new : Watching) (n x m : ℕ) → IsRehung w new n x → is_set new.waiting m ≡ false → (m ≡ n → ⊥) → is_set w.waiting m ≡ false
not_waiting w new n x m r h ne = ap (λ xs. is_set xs m) r.first ∙ (is_set-cons n new.waiting m
    ∙ (ap (λ b. b || is_set new.waiting m) (ne_eqb n m (λ e. ne (sym e))) ∙ h))

shorter : (w new : Watching) (n x : ℕ) → IsRehung w new n x → length new.waiting < length w.waiting
shorter w new n x r = omega (arith, ap length r.first)

-- its literal is the false one
pub rehung_false : (clauses : List (List ℕ)) (f : ℕ) (t : Trailed) (w new : Watching) (n x : ℕ) → CanWalk clauses f t w → IsRehung w new n x
    → watched w.literals n ≡ f
rehung_false clauses f t w new n x can r = can.waits n (ap (λ xs. is_set xs n) r.first ∙ is_set_first n new.waiting)

-- the watch stays on the false literal
pub walks_kept : (clauses : List (List ℕ)) (f : ℕ) (t : Trailed) (w new : Watching) (n : ℕ) → length t.reasons ≡ length t.lits → CanWalk clauses f t w
    → IsRehung w new n f → Walks clauses f t w t new
walks_kept clauses f t w new n paired can r =
    let same : new.literals ≡ w.literals = put_same w.literals new.literals n f r.put (sym (rehung_false clauses f t w new n f can r)) in
    let A : List ℕ → Type 0 = AreWatches clauses in
    let K : List ℕ → Type 0 = λ on. KeepsHalves t.lits w.literals t.lits on in
    record {
      can = record {
        in_vars = can.in_vars;
        normal = can.normal;
        watches = subst A (sym same) can.watches;
        limit = r.limit ∙ can.limit;
        falsified = can.falsified;
        waits = λ m h. ap (λ on. watched on m) same ∙ can.waits m (still_waits w new n f m r h).0;
      };
      extends = Extends-refl clauses t paired;
      keeps = subst K (sym same) (KeepsHalves-refl t.lits w.literals);
    }

-- and its partner is true
pub walked_kept : (clauses : List (List ℕ)) (f : ℕ) (t : Trailed) (w new : Watching) (n done : ℕ) → CanWalk clauses f t w → IsRehung w new n f
    → is_set t.lits (watched w.literals (negated n)) ≡ true → AreWalked done t w → AreWalked done t new
walked_kept clauses f t w new n done can r partner before m some out h =
    let same : new.literals ≡ w.literals = put_same w.literals new.literals n f r.put (sym (rehung_false clauses f t w new n f can r)) in
    ap (λ on. is_set t.lits (watched on (negated m))) same ∙ (elim (cases_eq m n) [
      | inl e ↦ ap (λ i. is_set t.lits (watched w.literals (negated i))) e ∙ partner
      | inr o ↦ before m (omega (arith, some, ap (λ on. watched on m) same)) (not_waiting w new n f m r out o)
          (ap (λ on. is_set (take done t.lits) (negated (watched on m))) (sym same) ∙ h)
    ])

-- the watch moves to a literal that is not false
pub walks_moved : (clauses : List (List ℕ)) (f : ℕ) (t : Trailed) (w new : Watching) (n q : ℕ) → length t.reasons ≡ length t.lits
    → IsDistinct eqb (map lit_var t.lits) → CanWalk clauses f t w → IsRehung w new n q
    → 0 < q → is_set (clause_at clauses (lit_var n)) q ≡ true → (q ≡ watched w.literals (negated n) → ⊥) → is_set t.lits (negated q) ≡ false
    → Walks clauses f t w t new
walks_moved clauses f t w new n q paired d can r pos inside ne open_q =
    let is_f = rehung_false clauses f t w new n q can r in
    let false_n : is_set t.lits (watched w.literals n) ≡ false = ap (is_set t.lits) is_f ∙ not_both t.lits f d can.falsified in
    record {
      can = record {
        in_vars = can.in_vars;
        normal = can.normal;
        watches = AreWatches-put clauses w.literals new.literals n q can.watches r.put r.on inside ne pos;
        limit = r.limit ∙ can.limit;
        falsified = can.falsified;
        waits = λ m h. let s = still_waits w new n q m r h in r.put.others m s.1 ∙ can.waits m s.0;
      };
      extends = Extends-refl clauses t paired;
      keeps = KeepsHalves-put t.lits w.literals new.literals n q r.put false_n open_q;
    }

pub walked_moved : (clauses : List (List ℕ)) (f : ℕ) (t : Trailed) (w new : Watching) (n q done : ℕ) → IsDistinct eqb (map lit_var t.lits)
    → CanWalk clauses f t w → IsRehung w new n q → is_set t.lits (negated q) ≡ false → AreWalked done t w → AreWalked done t new
walked_moved clauses f t w new n q done d can r open_q before m some out h =
    let is_f = rehung_false clauses f t w new n q can r in
    let false_n : is_set t.lits (watched w.literals n) ≡ false = ap (is_set t.lits) is_f ∙ not_both t.lits f d can.falsified in
    halves_put w.literals new.literals (take done t.lits) t.lits t.lits n q r.put (λ p. is_set-take done t.lits p) (λ p k. k) false_n open_q m
    (λ o pos. before m pos (not_waiting w new n q m r out o)) some h

-- the partner is set
pub walks_set : (clauses : List (List ℕ)) (f : ℕ) (t b : Trailed) (w new : Watching) (place u : ℕ) → Walks clauses f t w t new
    → IsUnitAt clauses t.lits place u → b.vars ≡ t.vars → b.lits ≡ t.lits ++ u ∷ [] → b.reasons ≡ t.reasons ++ place ∷ [] → Walks clauses f t w b new
walks_set clauses f t b w new place u k unit vars lits reasons =
    let e : Extends clauses t b = Extends-push clauses t t b place u k.extends vars lits reasons unit in
    let V : ℕ → Type 0 = λ v. AllInVars v clauses in
    let K : List ℕ → Type 0 = λ xs. KeepsHalves t.lits w.literals xs new.literals in
    record {
      can = record {
        in_vars = subst V (sym vars) k.can.in_vars;
        normal = k.can.normal;
        watches = k.can.watches;
        limit = k.can.limit ∙ ap (λ v. 2 * v + 2) (sym vars);
        falsified = still_set clauses t b (negated f) e k.can.falsified;
        waits = k.can.waits;
      };
      extends = e;
      keeps = subst K (sym lits) (KeepsHalves-trans t.lits w.literals t.lits new.literals (t.lits ++ u ∷ []) new.literals (omega arith) k.keeps
          (KeepsHalves-set t.lits new.literals u));
    }

pub walked_set : (clauses : List (List ℕ)) (f : ℕ) (t b : Trailed) (w new : Watching) (n done : ℕ) → CanWalk clauses f t w → IsRehung w new n f
    → Extends clauses t b → done ≤ length t.lits → is_set b.lits (watched w.literals (negated n)) ≡ true → AreWalked done t w → AreWalked done b new
walked_set clauses f t b w new n done can r e few partner before m some out h =
    let same : new.literals ≡ w.literals = put_same w.literals new.literals n f r.put (sym (rehung_false clauses f t w new n f can r)) in
    let front : take done t.lits ≡ take done b.lits = ap (take done) e.lits ∙ take-take done (length t.lits) b.lits few in
    ap (λ on. is_set b.lits (watched on (negated m))) same ∙ (elim (cases_eq m n) [
      | inl s ↦ ap (λ i. is_set b.lits (watched w.literals (negated i))) s ∙ partner
      | inr o ↦
          still_set clauses t b (watched w.literals (negated m)) e
          (before m (omega (arith, some, ap (λ on. watched on m) same)) (not_waiting w new n f m r out o)
          (ap (λ xs. is_set xs (negated (watched w.literals m))) front ∙ (ap (λ on. is_set (take done b.lits) (negated (watched on m))) (sym same) ∙ h)))
    ])

-- a watched literal stands in its clause, as it is read
pub partner_unit : (clauses : List (List ℕ)) (on lits clause : List ℕ) (n other : ℕ) → All IsNormal clauses → AreWatches clauses on → 0 < watched on n
    → other ≡ watched on (negated n) → clause ≡ clause_at clauses (lit_var n)
    → OthersFalse lits clause other → is_set lits other ≡ false → is_set lits (negated other) ≡ false → IsUnitAt clauses lits (lit_var n) other
partner_unit clauses on lits clause n other normal w some is at others unset not_false =
    let within = place_within clauses on n w some in
    let N : List ℕ → Type 0 = IsNormal in
    let there : is_set clause other ≡ true = ap (is_set clause) is ∙
    (ap (λ c. is_set c (watched on (negated n))) at ∙ (ap (λ k. is_set (clause_at clauses k) (watched on (negated n))) (sym (lit_var-negated n))
    ∙ w.inside (negated n) (w.both n some))) in (
      clause,
      slice_get_read clauses _ (lit_var n) clause refl within (at ∙ get_or_default clauses (lit_var n) [] clause within),
      (open_only lits clause other (normal_distinct clause (subst N (sym at) (normal (lit_var n) [] within))) there others not_false, unset),
    )

pub partner_false : (clauses : List (List ℕ)) (on lits clause : List ℕ) (n other : ℕ) → AreWatches clauses on → 0 < watched on n
    → clause ≡ clause_at clauses (lit_var n)
    → OthersFalse lits clause other → is_set lits (negated other) ≡ true → IsFalseAt clauses lits (lit_var n)
partner_false clauses on lits clause n other w some at others false_other =
    let within = place_within clauses on n w some in (
      clause,
      slice_get_read clauses _ (lit_var n) clause refl within (at ∙ get_or_default clauses (lit_var n) [] clause within),
      false_from_FalseBy lits clause (λ l m. elim (cases_eq l other) [
        | inl e ↦ ap (λ q. is_set lits (negated q)) e ∙ false_other
        | inr ne ↦ others l m ne
      ]),
    )

-- nothing is done yet
pub Walks-refl : (clauses : List (List ℕ)) (f : ℕ) (t : Trailed) (w : Watching) → length t.reasons ≡ length t.lits → CanWalk clauses f t w
    → Walks clauses f t w t w
Walks-refl clauses f t w paired can = record { can = can; extends = Extends-refl clauses t paired; keeps = KeepsHalves-refl t.lits w.literals }

pub Walks-trans : (clauses : List (List ℕ)) (f : ℕ) (a : Trailed) (wa : Watching) (b : Trailed) (wb : Watching) (c : Trailed) (wc : Watching)
    → Walks clauses f a wa b wb → Walks clauses f b wb c wc → Walks clauses f a wa c wc
Walks-trans clauses f a wa b wb c wc x y = record {
  can = y.can;
  extends = Extends-trans clauses a b c x.extends y.extends;
  keeps = KeepsHalves-trans a.lits wa.literals b.lits wb.literals c.lits wc.literals x.extends.longer x.keeps y.keeps;
}

-- the watches of one literal wait: the others have a true partner also where that literal's complement was walked
pub gathered_walked : (t : Trailed) (w : Watching) (on : List ℕ) (done p : ℕ) → w.literals ≡ on → done < length t.lits → p ≡ get_or t.lits done 0
    → Halves on (take done t.lits) t.lits
    → ((n : ℕ) → watched on n ≡ negated p → is_set w.waiting n ≡ true) → AreWalked (done + 1) t w
gathered_walked t w on done p same within p_is before all n some out h =
    let on_n : watched w.literals n ≡ watched on n = ap (λ xs. watched xs n) same in
    let read : is_set (take done t.lits ++ p ∷ []) (negated (watched on n)) ≡ true =
    ap (λ xs. is_set xs (negated (watched on n))) (ap (λ q. take done t.lits ++ q ∷ []) p_is ∙ sym (take_more t.lits done 0 within))
    ∙ (ap (λ q. is_set (take (done + 1) t.lits) (negated q)) (sym on_n) ∙ h) in
    ap (λ xs. is_set t.lits (watched xs (negated n))) same ∙ (elim (or_cases (is_set (take done t.lits) (negated (watched on n)))
    (eqb p (negated (watched on n))) (sym (is_set-push (take done t.lits) p (negated (watched on n))) ∙ read)) [
      | inl early ↦ before n (omega (arith, some, on_n)) early
      | inr e ↦ absurd (both_ways _ out (all n (sym (negated-negated (watched on n)) ∙ ap negated (sym (eqb-true _ _ e)))))
    ])

-- where no watch waits, what is walked is walked of all
pub walked_halves : (t : Trailed) (w : Watching) (done : ℕ) → w.waiting ≡ [] → AreWalked done t w → Halves w.literals (take done t.lits) t.lits
walked_halves t w done none walked n some h = walked n some (ap (λ xs. is_set xs n) none ∙ is_set-nil n) h

-- at the end no clause is false or unit
pub quiet_all : (clauses : List (List ℕ)) (on lits : List ℕ) (done looked : ℕ) → IsDistinct eqb (map lit_var lits) → AreWatches clauses on
    → Halves on (take done lits) lits → length lits ≤ done
    → ((k : ℕ) → k < looked → k < length clauses → length (clause_at clauses k) < 2 → HasTrue lits (clause_at clauses k)) → length clauses ≤ looked
    → IsQuiet clauses lits
quiet_all clauses on lits done looked d w halves all short many k c h =
    let P : List ℕ → Type 0 = IsQuietUnder lits in
    subst P (get_or_default clauses k [] c h) (elim (cases_eq (watched on (2 * k)) 0) [
      | inl z ↦ let t = short k (omega arith) h (w.short k h z) in true_quiet lits (clause_at clauses k) t.0 t.1 (consistent t.0 t.2) t.2
      | inr nz ↦ watched_quiet k (omega arith)
    ])
  where
    consistent : (l : ℕ) → is_set lits l ≡ true → is_set lits (negated l) ≡ false
    consistent l t = not_both lits (negated l) d (ap (is_set lits) (negated-negated l) ∙ t)

    front : (q : ℕ) → is_set lits q ≡ true → is_set (take done lits) q ≡ true
    front q t = ap (λ xs. is_set xs q) (take_all done lits all) ∙ t

    watched_quiet : (k : ℕ) → 0 < watched on (2 * k) → IsQuietUnder lits (clause_at clauses k)
    watched_quiet k some =
        let a = watched on (2 * k) in
        let b = watched on (negated (2 * k)) in
        let at : lit_var (2 * k) ≡ k = omega arith in
        let at_b : lit_var (negated (2 * k)) ≡ k = lit_var-negated (2 * k) ∙ at in
        let in_a : is_set (clause_at clauses k) a ≡ true = ap (λ i. is_set (clause_at clauses i) a) (sym at) ∙ w.inside (2 * k) some in
        let in_b : is_set (clause_at clauses k) b ≡ true = ap (λ i. is_set (clause_at clauses i) b) (sym at_b) ∙ w.inside (negated (2 * k))
        (w.both (2 * k) some) in
        elim (cases_Bool (is_set lits (negated a))) [
          | inl false_a ↦ let t = halves (2 * k) some (front (negated a) false_a) in true_quiet lits (clause_at clauses k) b in_b (consistent b t) t
          | inr open_a ↦ elim (cases_Bool (is_set lits (negated b))) [
            | inl false_b ↦
                let t : is_set lits a ≡ true = ap (λ i. is_set lits (watched on i)) (sym (negated-negated (2 * k))) ∙ halves (negated (2 * k))
                (w.both (2 * k) some) (front (negated b) false_b) in
                true_quiet lits (clause_at clauses k) a in_a (consistent a t) t
            | inr open_b ↦ two_quiet lits (clause_at clauses k) a b in_a in_b (w.apart (2 * k) some) open_a open_b
          ]
        ]

-- a watch that was taken and is put on x
pub rehung_from : (w mid new : Watching) (n x : ℕ) → n < length w.literals → 0 < watched w.literals n → is_set mid.waiting n ≡ false → w.waiting ≡ n
    ∷ mid.waiting
    → mid ≡ record { limit = w.limit; literals = set w.literals n 0; waiting = mid.waiting }
    → new ≡ record { limit = mid.limit; literals = set mid.literals n x; waiting = mid.waiting } → IsRehung w new n x
rehung_from w mid new n x within some gone first mid_is new_is =
    let waiting : new.waiting ≡ mid.waiting = ap (λ (v : Watching). v.waiting) new_is in
    let literals : new.literals ≡ set (set w.literals n 0) n x = ap (λ (v : Watching). v.literals) new_is ∙ ap (λ (v : Watching). set v.literals n x) mid_is in
    record {
      within = within;
      on = some;
      gone = ap (λ xs. is_set xs n) waiting ∙ gone;
      first = first ∙ ap (λ xs. n ∷ xs) (sym waiting);
      put = put_from w.literals new.literals n x within literals;
      limit = ap (λ (v : Watching). v.limit) new_is ∙ ap (λ (v : Watching). v.limit) mid_is;
    }

-- the clause's other watched literal, as it is read where the watch is taken
pub partner_read : (w mid : Watching) (n m r : ℕ) → mid ≡ record { limit = w.limit; literals = set w.literals n 0; waiting = mid.waiting }
    → m ≡ negated n → r ≡ get_or mid.literals m 0 → r ≡ watched w.literals (negated n)
partner_read w mid n m r mid_is m_is r_is =
    r_is ∙ (ap (λ (v : Watching). get_or v.literals m 0) mid_is ∙ (ap (λ i. get_or (set w.literals n 0) i 0) m_is ∙ get_or-set_other w.literals n
    (negated n) 0 0 (negated_other n)))

-- watches go back onto the literal that they were taken from
pub put_again : (w mid new : Watching) (n x : ℕ) → watched w.literals n ≡ x → n < length w.literals
    → mid ≡ record { limit = w.limit; literals = set w.literals n 0; waiting = mid.waiting }
    → new ≡ record { limit = mid.limit; literals = set mid.literals n x; waiting = mid.waiting }
    → (new.literals ≡ w.literals) × (new.limit ≡ w.limit) × (new.waiting ≡ mid.waiting)
put_again w mid new n x at within mid_is new_is =
    let literals : new.literals ≡ set (set w.literals n 0) n x = ap (λ (v : Watching). v.literals) new_is
    ∙ ap (λ (v : Watching). set v.literals n x) mid_is in (
      put_same w.literals new.literals n x (put_from w.literals new.literals n x within literals) (sym at),
      ap (λ (v : Watching). v.limit) new_is ∙ ap (λ (v : Watching). v.limit) mid_is,
      ap (λ (v : Watching). v.waiting) new_is,
    )

-- the steps of a walk, by what is found in the clause
pub visit_satisfied : (clauses : List (List ℕ)) (f : ℕ) (t : Trailed) (w new : Watching) (n : ℕ) → length t.reasons ≡ length t.lits
    → CanWalk clauses f t w → IsRehung w new n f → is_set t.lits (watched w.literals (negated n)) ≡ true → VisitMeans clauses f t w t new Next
visit_satisfied clauses f t w new n paired can r partner = (
  walks_kept clauses f t w new n paired can r,
  shorter w new n f r,
  λ done few walked. walked_kept clauses f t w new n done can r partner walked,
)

pub visit_moved : (clauses : List (List ℕ)) (f : ℕ) (t : Trailed) (w new : Watching) (n q : ℕ) → length t.reasons ≡ length t.lits
    → IsDistinct eqb (map lit_var t.lits) → CanWalk clauses f t w → IsRehung w new n q
    → is_set (clause_at clauses (lit_var n)) q ≡ true → (q ≡ watched w.literals (negated n) → ⊥) → is_set t.lits (negated q) ≡ false
    → VisitMeans clauses f t w t new Next
visit_moved clauses f t w new n q paired d can r inside ne open_q =
    let v = member_from_All (InVars t.vars) (clause_at clauses (lit_var n)) q
    (can.in_vars (lit_var n) [] (place_within clauses w.literals n can.watches r.on)) inside in (
      walks_moved clauses f t w new n q paired d can r (omega (arith, v.0)) inside ne open_q,
      shorter w new n q r,
      λ done few walked. walked_moved clauses f t w new n q done d can r open_q walked,
    )

pub visit_implied : (clauses : List (List ℕ)) (f : ℕ) (t b : Trailed) (w new : Watching) (n u : ℕ) → length t.reasons ≡ length t.lits
    → CanWalk clauses f t w → IsRehung w new n f → u ≡ watched w.literals (negated n)
    → OthersFalse t.lits (clause_at clauses (lit_var n)) u → is_set t.lits u ≡ false → is_set t.lits (negated u) ≡ false → b.vars ≡ t.vars
    → b.lits ≡ t.lits ++ u ∷ [] → b.reasons ≡ t.reasons ++ lit_var n ∷ [] → VisitMeans clauses f t w b new Next
visit_implied clauses f t b w new n u paired can r is others unset not_false vars lits reasons =
    let unit = partner_unit clauses w.literals t.lits (clause_at clauses (lit_var n)) n u can.normal can.watches r.on is refl others unset not_false in
    let k = walks_set clauses f t b w new (lit_var n) u (walks_kept clauses f t w new n paired can r) unit vars lits reasons in
    let there : is_set b.lits (watched w.literals (negated n)) ≡ true =
    ap (is_set b.lits) (sym is) ∙ (ap (λ xs. is_set xs u) lits ∙ (is_set-append t.lits (u ∷ []) u ∙ right (is_set t.lits u) (is_set_first u []))) in (
      k,
      shorter w new n f r,
      λ done few walked. walked_set clauses f t b w new n done can r k.extends few there walked,
    )
  where
    right : (a : Bool) {c : Bool} → c ≡ true → (a || c) ≡ true
    right true e = refl
    right false e = e

pub visit_falsified : (clauses : List (List ℕ)) (f : ℕ) (t : Trailed) (w new : Watching) (n u : ℕ) → length t.reasons ≡ length t.lits
    → CanWalk clauses f t w → IsRehung w new n f → OthersFalse t.lits (clause_at clauses (lit_var n)) u → is_set t.lits (negated u) ≡ true
    → VisitMeans clauses f t w t new (Conflict (lit_var n))
visit_falsified clauses f t w new n u paired can r others false_u = (
  walks_kept clauses f t w new n paired can r,
  partner_false clauses w.literals t.lits (clause_at clauses (lit_var n)) n u can.watches r.on refl others false_u,
)

-- a quiet clause with fewer than two literals has a true one
pub short_true : (set clause : List ℕ) → length clause < 2 → IsQuietUnder set clause → HasTrue set clause
short_true set [] h q = absurd (q.0 refl)
short_true set (u ∷ []) h q = elim (cases_Bool (is_set set u)) [
  | inl t ↦ (u, is_set_first u [], t)
  | inr f ↦ elim (cases_Bool (is_set set (negated u))) [
    | inl n ↦ absurd (q.0 (false_from_FalseBy set (u ∷ []) (λ l m. ap (λ x. is_set set (negated x)) (sym (only u l m)) ∙ n)))
    | inr n ↦ absurd (q.1 u (cond-true (not (is_set set (negated u))) (u ∷ []) [] (not_from_false _ n), f))
  ]
]
short_true set (u ∷ (v ∷ rest)) h q = absurd (omega arith)

-- more literals are set by reasons
pub KeepsHalves-extends : (clauses : List (List ℕ)) (a b : Trailed) (on : List ℕ) → Extends clauses a b → KeepsHalves a.lits on b.lits on
KeepsHalves-extends clauses a b on e d s d_few s_few before n some h =
    ap (λ xs. is_set xs (watched on (negated n))) (sym (front s s_few)) ∙ before n some (ap (λ xs. is_set xs (negated (watched on n))) (front d d_few) ∙ h)
  where
    front : (k : ℕ) → k ≤ length a.lits → take k a.lits ≡ take k b.lits
    front k few = ap (take k) e.lits ∙ take-take k (length a.lits) b.lits few

pub Settles-refl : (clauses : List (List ℕ)) (t : Trailed) (q : Queue) → length t.reasons ≡ length t.lits → IsQueued clauses t q → Settles clauses t q t q
Settles-refl clauses t q paired queued = record { queued = queued; extends = Extends-refl clauses t paired; keeps = KeepsHalves-refl t.lits q.watches.literals }

pub Settles-trans : (clauses : List (List ℕ)) (a : Trailed) (qa : Queue) (b : Trailed) (qb : Queue) (c : Trailed) (qc : Queue)
    → Settles clauses a qa b qb → Settles clauses b qb c qc → Settles clauses a qa c qc
Settles-trans clauses a qa b qb c qc x y = record {
  queued = y.queued;
  extends = Extends-trans clauses a b c x.extends y.extends;
  keeps = KeepsHalves-trans a.lits qa.watches.literals b.lits qb.watches.literals c.lits qc.watches.literals x.extends.longer x.keeps y.keeps;
}

-- more literals are set, and the queue stays
pub Settles-extends : (clauses : List (List ℕ)) (a b : Trailed) (q : Queue) → IsQueued clauses a q → Extends clauses a b → Settles clauses a q b q
Settles-extends clauses a b q queued e =
    let keeps = KeepsHalves-extends clauses a b q.watches.literals e in
    record {
      queued = record {
        watches = queued.watches;
        limit = queued.limit ∙ ap (λ v. 2 * v + 2) (sym e.vars);
        none_waits = queued.none_waits;
        few = omega (arith, queued.few, e.longer);
        most = queued.most;
        walked = Halves-kept a.lits q.watches.literals b.lits q.watches.literals q.done keeps queued.few queued.walked;
        looked = λ k h w s. HasTrue-more clauses a b (clause_at clauses k) e (queued.looked k h w s);
      };
      extends = e;
      keeps = keeps;
    }

-- one more clause is looked at
pub Settles-look : (clauses : List (List ℕ)) (a b : Trailed) (q : Queue) → IsQueued clauses a q → Extends clauses a b → q.looked < length clauses
    → (length (clause_at clauses q.looked) < 2 → HasTrue b.lits (clause_at clauses q.looked))
    → Settles clauses a q b (record { watches = q.watches; done = q.done; looked = q.looked + 1; starts = q.starts })
Settles-look clauses a b q queued e within holds =
    let s = Settles-extends clauses a b q queued e in
    record {
      queued = record {
        watches = s.queued.watches;
        limit = s.queued.limit;
        none_waits = s.queued.none_waits;
        few = s.queued.few;
        most = omega arith;
        walked = s.queued.walked;
        looked = λ k h w short. elim (cases_eq k q.looked) [
          | inl same ↦
              let P : ℕ → Type 0 = λ i. length (clause_at clauses i) < 2 → HasTrue b.lits (clause_at clauses i) in
              subst P (sym same) holds short
          | inr ne ↦ s.queued.looked k (omega arith) w short
        ];
      };
      extends = e;
      keeps = s.keeps;
    }

-- the watches of one more set literal are walked, or a clause is false on the way
pub Settles-walk : (clauses : List (List ℕ)) (f : ℕ) (a b : Trailed) (q : Queue) (w new : Watching) (done : ℕ) {starts : Vec ℕ Global} → IsQueued clauses a q
    → w.literals ≡ q.watches.literals → Walks clauses f a w b new → new.waiting ≡ [] → done ≤ length b.lits
    → Halves new.literals (take done b.lits) b.lits
    → Settles clauses a q b (record { watches = new; done = done; looked = q.looked; starts = starts })
Settles-walk clauses f a b q w new done queued same k none few walked =
    let K : List ℕ → Type 0 = λ on. KeepsHalves a.lits on b.lits new.literals in
    record {
      queued = record {
        watches = k.can.watches;
        limit = k.can.limit;
        none_waits = none;
        few = few;
        most = queued.most;
        walked = walked;
        looked = λ i h within short. HasTrue-more clauses a b (clause_at clauses i) k.extends (queued.looked i h within short);
      };
      extends = k.extends;
      keeps = subst K same k.keeps;
    }

pub HasMore-refl : (q : Queue) → HasMore q q
HasMore-refl q = record { same = λ n. refl; longer = omega arith; waiting = refl; limit = refl; done = refl; looked = refl }

pub HasMore-add : (old now : Queue) (w : Watching) → HasMore old now → w ≡ record {
  limit = now.watches.limit;
  literals = now.watches.literals ++ 0
      ∷ [];
  waiting = now.watches.waiting;
} → HasMore old (record { watches = w; done = now.done; looked = now.looked; starts = now.starts })
HasMore-add old now w h e = record {
  same = λ n. ap (λ (v : Watching). watched v.literals n) e ∙ (zero_more now.watches.literals n ∙ h.same n);
  longer = omega (arith, h.longer, ap (λ (v : Watching). length v.literals) e, length_push now.watches.literals 0);
  waiting = ap (λ (v : Watching). v.waiting) e ∙ h.waiting;
  limit = ap (λ (v : Watching). v.limit) e ∙ h.limit;
  done = h.done;
  looked = h.looked;
}

-- where searches begin plays no part
pub HasMore-starts : (old now : Queue) (starts : Vec ℕ Global) → HasMore old now
    → HasMore old (record { watches = now.watches; done = now.done; looked = now.looked; starts = starts })
HasMore-starts old now starts h = record {
  same = h.same;
  longer = h.longer;
  waiting = h.waiting;
  limit = h.limit;
  done = h.done;
  looked = h.looked;
}

-- a literal that is set now is true
pub set_true : (lits : List ℕ) (u : ℕ) → is_set (lits ++ u ∷ []) u ≡ true
set_true lits u = is_set-append lits (u ∷ []) u ∙ right (is_set lits u) (is_set_first u [])
  where
    right : (a : Bool) {c : Bool} → c ≡ true → (a || c) ≡ true
    right true e = refl
    right false e = e

-- the watches that waited are put back
pub Walks-drained : (clauses : List (List ℕ)) (f : ℕ) (t : Trailed) (w : Watching) (new_t : Trailed) (new_w dry : Watching)
    → Walks clauses f t w new_t new_w → dry ≡ record { limit = new_w.limit; literals = new_w.literals; waiting = [] } → Walks clauses f t w new_t dry
Walks-drained clauses f t w new_t new_w dry k e =
    let P : Watching → Type 0 = Walks clauses f t w new_t in
    subst P (sym e) (record {
      can = record {
        in_vars = k.can.in_vars;
        normal = k.can.normal;
        watches = k.can.watches;
        limit = k.can.limit;
        falsified = k.can.falsified;
        waits = λ n h. absurd (false≢true (sym (is_set-nil n) ∙ h));
      };
      extends = k.extends;
      keeps = k.keeps;
    })

-- the watches on the complement of a literal wait
pub gathered_can : (clauses : List (List ℕ)) (t : Trailed) (q : Queue) (w : Watching) (p f : ℕ) → AllInVars t.vars clauses → All IsNormal clauses
    → IsQueued clauses t q → is_set t.lits p ≡ true → f ≡ negated p → w.limit ≡ q.watches.limit → w.literals ≡ q.watches.literals
    → ((n : ℕ) → is_set w.waiting n ≡ true → watched q.watches.literals n ≡ f) → CanWalk clauses f t w
gathered_can clauses t q w p f in_vars normal queued holds f_is limit literals on =
    let A : List ℕ → Type 0 = AreWatches clauses in
    record {
      in_vars = in_vars;
      normal = normal;
      watches = subst A (sym literals) queued.watches;
      limit = limit ∙ queued.limit;
      falsified = ap (is_set t.lits) (ap negated f_is ∙ negated-negated p) ∙ holds;
      waits = λ n h. ap (λ xs. watched xs n) literals ∙ on n h;
    }

-- walking the watches of one more set literal: without a conflict all of them are done, else the count stays
pub walk_settles : (clauses : List (List ℕ)) (a b : Trailed) (q : Queue) (w new : Watching) (p f : ℕ) {starts : Vec ℕ Global} → IsQueued clauses a q
    → q.done < length a.lits → p ≡ get_or a.lits q.done 0 → f ≡ negated p → w.literals ≡ q.watches.literals
    → ((n : ℕ) → watched q.watches.literals n ≡ f → is_set w.waiting n ≡ true) → Walks clauses f a w b new → new.waiting ≡ []
    → ((done : ℕ) → done ≤ length a.lits → AreWalked done a w → AreWalked done b new)
    → Settles clauses a q b (record { watches = new; done = q.done + 1; looked = q.looked; starts = starts })
walk_settles clauses a b q w new p f queued within p_is f_is same all k none walked =
    Settles-walk clauses f a b q w new (q.done + 1) queued same k none (omega (arith, k.extends.longer))
    (walked_halves b new (q.done + 1) none
    (walked (q.done + 1) (omega arith) (gathered_walked a w q.watches.literals q.done p same within p_is queued.walked (λ n e. all n (e ∙ sym f_is)))))

pub walk_conflicts : (clauses : List (List ℕ)) (a b : Trailed) (q : Queue) (w new : Watching) (f : ℕ) {starts : Vec ℕ Global} → IsQueued clauses a q
    → w.literals ≡ q.watches.literals → Walks clauses f a w b new → new.waiting ≡ []
    → Settles clauses a q b (record { watches = new; done = q.done; looked = q.looked; starts = starts })
walk_conflicts clauses a b q w new f queued same k none =
    let K : List ℕ → Type 0 = λ on. KeepsHalves a.lits on b.lits new.literals in
    Settles-walk clauses f a b q w new q.done queued same k none (omega (arith, queued.few, k.extends.longer))
    (Halves-kept a.lits q.watches.literals b.lits new.literals q.done (subst K same k.keeps) queued.few queued.walked)
