-- An engine's queue through its steps.
use Rattle.std.proofs.Common.{◌≡◌, ℕ, zero, suc, ◌+◌, ◌-◌, ◌*◌, ◌<◌, ◌≤◌, ◌⊎◌, Bool, true, false, ◌||◌, eqb, List, [], ◌∷◌, ◌++◌, length, get_or, set}
use Rattle.std.proofs.Common.{take, refl, sym, ap, ◌∙◌, subst, inl, inr, Option, Some, None, arith}
use Rattle.std.specs.List.{All}
use Rattle.std.specs.Option.{MatchOption, IfSome}
use Rattle.std.proofs.lemmas.Bool.{false≢true, cases_eq, cases_lt, both_ways, eq-eqb}
use Rattle.std.proofs.lemmas.List.{length-set, get_or-set_same, get_or-set_other, get_or_append_left, get_or_push, get_or_past, get_or-take}
use Rattle.std.proofs.lemmas.List.{take_more, take-append-le, take-take, take_all, length_push, length-take-le}
use Rattle.std.proofs.lemmas.List.Elements.{All-push}
use Rattle.proof_log.specs.Literals.{lit_var, negated, InVars}
use Rattle.proof_log.specs.Clauses.{is_set, IsNormal, IsQuietUnder}
use Rattle.proof_log.specs.declared.derivations.DerivStep.{DerivStep}
use Rattle.proof_log.proofs.LiteralLemmas.{negated_even, negated_odd, negated-negated}
use Rattle.proof_log.proofs.Members.{is_set-nil, is_set-at, is_set-push, is_set-take, is_set_first, is_set_later, member_from_All}
use Rattle.sat_solver.specs.Searches.{AllInVars, IsQuiet, search_of}
use Rattle.sat_solver.specs.Trails.{Trailed}
use Rattle.sat_solver.specs.Learning.{OthersFalse, OtherOpen, IsLearnt}
use Rattle.sat_solver.specs.Engines.{IsSearch, IsEngine, level_floor}
use Rattle.sat_solver.specs.Watches.{watched, clause_at, AreWatches, Halves, KeepsHalves, HasTrue, IsQueued, Settles, HasMore, IsAdded}
use Rattle.sat_solver.specs.declared.propagation.Queue.{Queue}
use Rattle.sat_solver.proofs.Trailing.{is_set-take_more, front_unset}
use Rattle.sat_solver.proofs.Watching.{KeepsHalves-set, Halves-kept, place_within, short_true}
use Rattle.sat_solver.proofs.Levels.{IsSearch-extends, IsSearch-decide, IsSearch-back}
use Rattle.sat_solver.proofs.AtConflict.{IsSearch-learn, unit_unset_at}

-- no literal is set, and no level is open
pub IsEngine-start : (clauses : List (List ℕ)) (vars : ℕ) (q : Queue) → AllInVars vars clauses → All IsNormal clauses
    → IsQueued clauses (record { vars = vars; lits = []; reasons = [] }) q
    → IsEngine clauses (record { vars = vars; lits = []; reasons = [] }) [] [] q
IsEngine-start clauses vars q in_vars normal queued = record {
  search = record {
    in_vars = in_vars;
    ordered = λ j k lt h. absurd (omega (arith, h));
    deep = λ k h. absurd (omega (arith, h));
    within = λ k h. absurd (omega (arith, h));
    quiet = λ k h. absurd (omega (arith, h));
    paired = refl;
    justified = λ i h. absurd (omega (arith, h));
  };
  normal = normal;
  queued = queued;
  levels = refl;
  low = λ k h. absurd (omega (arith, h));
  below = λ k h. absurd (omega (arith, h));
}

-- the queue is worked off
pub IsEngine-settle : (clauses : List (List ℕ)) (t new : Trailed) (starts walks : List ℕ) (q new_q : Queue) → IsEngine clauses t starts walks q
    → Settles clauses t q new new_q → IsEngine clauses new starts walks new_q
IsEngine-settle clauses t new starts walks q new_q e s = record {
  search = IsSearch-extends clauses t new starts e.search s.extends;
  normal = e.normal;
  queued = s.queued;
  levels = e.levels;
  low = e.low;
  below = λ k h. s.keeps (get_or walks k 0) (get_or starts k 0) (omega (arith, e.low k h, e.search.within k h)) (omega (arith, e.search.within k h))
      (e.below k h);
}

has_true_set : (lits more clause : List ℕ) (u : ℕ) → more ≡ lits ++ u ∷ [] → HasTrue lits clause → HasTrue more clause
has_true_set lits more clause u e h = (h.0, h.1, ap (λ xs. is_set xs h.0) e ∙ (is_set-push lits u h.0 ∙ ap (λ b. b || eqb u h.0) h.2))

-- a level is opened
pub IsEngine-decide : (clauses : List (List ℕ)) (t b : Trailed) (starts walks : List ℕ) (q : Queue) (d r : ℕ) → IsEngine clauses t starts walks q
    → IsQuiet clauses t.lits → b.vars ≡ t.vars → b.lits ≡ t.lits ++ d ∷ [] → b.reasons ≡ t.reasons ++ r ∷ []
    → IsEngine clauses b (starts ++ length t.lits ∷ []) (walks ++ q.done ∷ []) q
IsEngine-decide clauses t b starts walks q d r e quiet vars lits reasons =
    let on = q.watches.literals in
    let K : List ℕ → Type 0 = λ xs. KeepsHalves t.lits on xs on in
    let keeps : KeepsHalves t.lits on b.lits on = subst K (sym lits) (KeepsHalves-set t.lits on d) in
    let long : length (starts ++ length t.lits ∷ []) ≡ length starts + 1 = length_push starts (length t.lits) in
    record {
      search = IsSearch-decide clauses t b starts d r e.search quiet vars lits reasons;
      normal = e.normal;
      queued = record {
        watches = e.queued.watches;
        limit = e.queued.limit ∙ ap (λ v. 2 * v + 2) (sym vars);
        none_waits = e.queued.none_waits;
        few = omega (arith, e.queued.few, ap length lits, length_push t.lits d);
        most = e.queued.most;
        walked = Halves-kept t.lits on b.lits on q.done keeps e.queued.few e.queued.walked;
        looked = λ k h w s. has_true_set t.lits b.lits (clause_at clauses k) d lits (e.queued.looked k h w s);
      };
      levels = omega (arith, long, length_push walks q.done, e.levels);
      low = λ k h. elim (cases_lt k (length starts)) [
        | inl lt ↦ omega (arith, old_start k lt, old_walk k lt, e.low k lt)
        | inr ge ↦ omega (arith, new_start k (omega arith), new_walk k (omega arith), e.queued.few)
      ];
      below = λ k h. elim (cases_lt k (length starts)) [
        | inl lt ↦
            let H : ℕ → ℕ → Type 0 = λ w s. Halves on (take w b.lits) (take s b.lits) in
            let W : ℕ → Type 0 = λ w. H w (get_or (starts ++ length t.lits ∷ []) k 0) in
            let S : ℕ → Type 0 = λ s. H (get_or walks k 0) s in
            subst W (sym (old_walk k lt)) (subst S (sym (old_start k lt))
            (keeps (get_or walks k 0) (get_or starts k 0) (omega (arith, e.low k lt, e.search.within k lt)) (omega (arith, e.search.within k lt))
            (e.below k lt)))
        | inr ge ↦
            let H : ℕ → ℕ → Type 0 = λ w s. Halves on (take w b.lits) (take s b.lits) in
            let W : ℕ → Type 0 = λ w. H w (get_or (starts ++ length t.lits ∷ []) k 0) in
            let S : ℕ → Type 0 = λ s. H q.done s in
            subst W (sym (new_walk k (omega arith))) (subst S (sym (new_start k (omega arith)))
            (keeps q.done (length t.lits) e.queued.few (omega arith)
            (λ n p h. ap (λ xs. is_set xs (watched on (negated n))) (take_whole t.lits) ∙ e.queued.walked n p h)))
      ];
    }
  where
    old_start : (k : ℕ) → k < length starts → get_or (starts ++ length t.lits ∷ []) k 0 ≡ get_or starts k 0
    old_start k h = get_or_append_left starts (length t.lits ∷ []) 0 k h

    old_walk : (k : ℕ) → k < length starts → get_or (walks ++ q.done ∷ []) k 0 ≡ get_or walks k 0
    old_walk k h = get_or_append_left walks (q.done ∷ []) 0 k (omega (arith, e.levels))

    new_start : (k : ℕ) → length starts ≡ k → get_or (starts ++ length t.lits ∷ []) k 0 ≡ length t.lits
    new_start k h = get_or_push starts (length t.lits) 0 k h

    new_walk : (k : ℕ) → length starts ≡ k → get_or (walks ++ q.done ∷ []) k 0 ≡ q.done
    new_walk k h = get_or_push walks q.done 0 k (omega (arith, e.levels))

    take_whole : (xs : List ℕ) → take (length xs) xs ≡ xs
    take_whole [] = refl
    take_whole (x ∷ xs) = ap (λ ys. x ∷ ys) (take_whole xs)

-- what is walked and looked at in the front that a level begins with
pub IsEngine-back : (clauses : List (List ℕ)) (t b : Trailed) (starts walks : List ℕ) (q new : Queue) (level n : ℕ)
    → IsEngine clauses t starts walks q → level < length starts → n ≡ get_or starts level 0 → b.vars ≡ t.vars → b.lits ≡ take n t.lits
    → b.reasons ≡ take n t.reasons
    → new ≡ record { watches = q.watches; done = get_or walks level 0; looked = q.looked; starts = q.starts }
    → IsEngine clauses b (take level starts) (take level walks) new
IsEngine-back clauses t b starts walks q new level n e below n_is vars lits reasons new_is =
    let on = q.watches.literals in
    let few : n < length t.lits = omega (arith, e.search.within level below) in
    let long : length b.lits ≡ n = ap length lits ∙ length-take-le n t.lits (omega arith) in
    let levels : length (take level starts) ≡ level = length-take-le level starts (omega arith) in
    let low : get_or walks level 0 ≤ n = omega (arith, e.low level below) in
    let P : Queue → Type 0 = IsEngine clauses b (take level starts) (take level walks) in
    subst P (sym new_is) (record {
      search = IsSearch-back clauses t b starts level n e.search below n_is vars lits reasons;
      normal = e.normal;
      queued = record {
        watches = e.queued.watches;
        limit = e.queued.limit ∙ ap (λ v. 2 * v + 2) (sym vars);
        none_waits = e.queued.none_waits;
        few = omega (arith, low, long);
        most = e.queued.most;
        walked = λ m p h. ap (λ xs. is_set xs (watched on (negated m))) (lits ∙ ap (λ i. take i t.lits) n_is)
            ∙ e.below level below m p (ap (λ xs. is_set xs (negated (watched on m)))
            (sym (ap (take (get_or walks level 0)) lits ∙ take-take (get_or walks level 0) n t.lits low)) ∙ h);
        looked = λ k h w s.
            let Q : List ℕ → Type 0 = λ xs. IsQuietUnder xs (clause_at clauses k) in
            short_true b.lits (clause_at clauses k) s (subst Q (sym (lits ∙ ap (λ i. take i t.lits) n_is)) (e.search.quiet level below k [] w));
      };
      levels = omega (arith, levels, length-take-le level walks (omega (arith, e.levels)));
      low = λ k h. omega (
        arith,
        get_or-take level walks k 0 (omega (arith, levels)),
        get_or-take level starts k 0 (omega (arith, levels)),
        e.low k (omega (arith, levels)),
      );
      below = λ k h.
          let lt : k < level = omega (arith, levels) in
          let o = e.search.ordered k level lt below in
          let s_low : get_or starts k 0 ≤ n = omega arith in
          let w_low : get_or walks k 0 ≤ n = omega (arith, e.low k (omega arith)) in
          rw (
            get_or-take level walks k 0 lt,
            get_or-take level starts k 0 lt,
            lits,
            take-take (get_or walks k 0) n t.lits w_low,
            take-take (get_or starts k 0) n t.lits s_low,
          )
          (e.below k (omega arith));
    })

-- a clause's two watches are put onto two literals
pub record IsPair (on new : List ℕ) (k a b : ℕ) : Type 0 where
  pub left : watched new (2 * k) ≡ a
  pub right : watched new (2 * k + 1) ≡ b
  pub others : (m : ℕ) → (m ≡ 2 * k → ⊥) → (m ≡ 2 * k + 1 → ⊥) → watched new m ≡ watched on m

pub pair_from : (on new : List ℕ) (k a b : ℕ) → 2 * k + 1 < length on → new ≡ set (set on (2 * k) a) (2 * k + 1) b → IsPair on new k a b
pair_from on new k a b h e = rw e (record {
  left = get_or-set_other (set on (2 * k) a) (2 * k + 1) (2 * k) b 0 (λ q. absurd (omega arith)) ∙ get_or-set_same on (2 * k) a 0 (omega arith);
  right = get_or-set_same (set on (2 * k) a) (2 * k + 1) b 0 (omega (arith, length-set on (2 * k) a));
  others = λ m x y. get_or-set_other (set on (2 * k) a) (2 * k + 1) m b 0 y ∙ get_or-set_other on (2 * k) m a 0 x;
})

up : (k : ℕ) → negated (2 * k) ≡ 2 * k + 1
up k = negated_even (2 * k) (omega arith)

down : (k : ℕ) → negated (2 * k + 1) ≡ 2 * k
down k = negated_odd (2 * k + 1) (λ e. absurd (omega arith)) ∙ omega arith

-- the other watch of another clause's is another clause's
far_left : (m k : ℕ) → (m ≡ 2 * k + 1 → ⊥) → negated m ≡ 2 * k → ⊥
far_left m k ne e = ne (sym (negated-negated m) ∙ (ap negated e ∙ up k))

far_right : (m k : ℕ) → (m ≡ 2 * k → ⊥) → negated m ≡ 2 * k + 1 → ⊥
far_right m k ne e = ne (sym (negated-negated m) ∙ (ap negated e ∙ down k))

pub Halves-pair : (on new first second : List ℕ) (k a b : ℕ) → IsPair on new k a b → (is_set first (negated a) ≡ true → is_set second b ≡ true)
    → (is_set first (negated b) ≡ true → is_set second a ≡ true) → Halves on first second → Halves new first second
Halves-pair on new first second k a b p left right before m some h = elim (cases_eq m (2 * k)) [
  | inl e ↦ ap (λ i. is_set second (watched new i)) (ap negated e ∙ up k)
      ∙ (ap (is_set second) p.right ∙ left (ap (λ l. is_set first (negated l)) (sym (ap (watched new) e ∙ p.left)) ∙ h))
  | inr x ↦ elim (cases_eq m (2 * k + 1)) [
    | inl e ↦ ap (λ i. is_set second (watched new i)) (ap negated e ∙ down k)
        ∙ (ap (is_set second) p.left ∙ right (ap (λ l. is_set first (negated l)) (sym (ap (watched new) e ∙ p.right)) ∙ h))
    | inr y ↦ ap (is_set second) (p.others (negated m) (far_left m k y) (far_right m k x))
        ∙ before m (omega (arith, some, p.others m x y)) (ap (λ l. is_set first (negated l)) (sym (p.others m x y)) ∙ h)
  ]
]

pub Halves-same : (on new first second : List ℕ) → ((n : ℕ) → watched new n ≡ watched on n) → Halves on first second → Halves new first second
Halves-same on new first second same before m some h = ap (is_set second) (same (negated m)) ∙ before m (omega (arith, some, same m))
    (ap (λ l. is_set first (negated l)) (sym (same m)) ∙ h)

-- an earlier clause stays at its place
old_clause : (clauses : List (List ℕ)) (clause on : List ℕ) (n : ℕ) → AreWatches clauses on → 0 < watched on n → clause_at (clauses ++ clause ∷ [])
    (lit_var n) ≡ clause_at clauses (lit_var n)
old_clause clauses clause on n w some = get_or_append_left clauses (clause ∷ []) [] (lit_var n) (place_within clauses on n w some)

-- one more clause that has no two literals
pub AreWatches-short : (clauses : List (List ℕ)) (clause on new : List ℕ) → AreWatches clauses on → ((n : ℕ) → watched new n ≡ watched on n)
    → 2 * length clauses + 1 < length new → length clause < 2 → AreWatches (clauses ++ clause ∷ []) new
AreWatches-short clauses clause on new w same room few = record {
  room = omega (arith, room, length_push clauses clause);
  spare = λ n h. same n ∙ w.spare n (omega (arith, h, length_push clauses clause));
  inside = λ n h.
      let some : 0 < watched on n = omega (arith, h, same n) in
      ap (λ c. is_set c (watched new n)) (old_clause clauses clause on n w some) ∙ (ap (is_set (clause_at clauses (lit_var n))) (same n) ∙ w.inside n some);
  both = λ n h. omega (arith, same (negated n), w.both n (omega (arith, h, same n)));
  apart = λ n h e. w.apart n (omega (arith, h, same n)) (sym (same n) ∙ (e ∙ same (negated n)));
  short = λ k h z. elim (cases_lt k (length clauses)) [
    | inl lt ↦ omega (arith, ap length (get_or_append_left clauses (clause ∷ []) [] k lt), w.short k lt (sym (same (2 * k)) ∙ z))
    | inr ge ↦ omega (arith, ap length (get_or_push clauses clause [] k (omega (arith, h, length_push clauses clause))), few)
  ];
}

-- one more clause, watched by two of its literals
pub AreWatches-pair : (clauses : List (List ℕ)) (clause on new : List ℕ) (k a b : ℕ) → AreWatches clauses on → k ≡ length clauses
    → IsPair on new k a b → 2 * k + 1 < length new → is_set clause a ≡ true → is_set clause b ≡ true → (a ≡ b → ⊥) → 0 < a → 0 < b
    → AreWatches (clauses ++ clause ∷ []) new
AreWatches-pair clauses clause on new k a b w k_is p room in_a in_b ne pos_a pos_b = record {
  room = omega (arith, room, k_is, length_push clauses clause);
  spare = λ n h. p.others n (λ e. absurd (omega (arith, h, k_is, length_push clauses clause)))
      (λ e. absurd (omega (arith, h, k_is, length_push clauses clause))) ∙ w.spare n (omega (arith, h, length_push clauses clause));
  inside = λ n h. elim (cases_eq n (2 * k)) [
    | inl e ↦ ap (λ c. is_set c (watched new n)) (here n (omega (arith, e))) ∙ (ap (is_set clause) (ap (watched new) e ∙ p.left) ∙ in_a)
    | inr x ↦ elim (cases_eq n (2 * k + 1)) [
      | inl e ↦ ap (λ c. is_set c (watched new n)) (here n (omega (arith, e))) ∙ (ap (is_set clause) (ap (watched new) e ∙ p.right) ∙ in_b)
      | inr y ↦
          let some : 0 < watched on n = omega (arith, h, p.others n x y) in
          ap (λ c. is_set c (watched new n)) (old_clause clauses clause on n w some)
          ∙ (ap (is_set (clause_at clauses (lit_var n))) (p.others n x y) ∙ w.inside n some)
    ]
  ];
  both = λ n h. elim (cases_eq n (2 * k)) [
    | inl e ↦ omega (arith, ap (watched new) (ap negated e ∙ up k), p.right, pos_b)
    | inr x ↦ elim (cases_eq n (2 * k + 1)) [
      | inl e ↦ omega (arith, ap (watched new) (ap negated e ∙ down k), p.left, pos_a)
      | inr y ↦ omega (arith, p.others (negated n) (far_left n k y) (far_right n k x), w.both n (omega (arith, h, p.others n x y)))
    ]
  ];
  apart = λ n h same. elim (cases_eq n (2 * k)) [
    | inl e ↦ ne (sym p.left ∙ (ap (watched new) (sym e) ∙ (same ∙ (ap (watched new) (ap negated e ∙ up k) ∙ p.right))))
    | inr x ↦ elim (cases_eq n (2 * k + 1)) [
      | inl e ↦ ne (sym (sym p.right ∙ (ap (watched new) (sym e) ∙ (same ∙ (ap (watched new) (ap negated e ∙ down k) ∙ p.left)))))
      | inr y ↦ w.apart n (omega (arith, h, p.others n x y)) (sym (p.others n x y) ∙ (same ∙ p.others (negated n) (far_left n k y) (far_right n k x)))
    ]
  ];
  short = λ i h z. elim (cases_lt i (length clauses)) [
    | inl lt ↦ omega (
      arith,
      ap length (get_or_append_left clauses (clause ∷ []) [] i lt),
      w.short i lt (sym (p.others (2 * i) (λ e. absurd (omega (arith, k_is))) (λ e. absurd (omega (arith, k_is)))) ∙ z),
    )
    | inr ge ↦
        let e : i ≡ k = omega (arith, h, k_is, length_push clauses clause) in
        absurd (omega (arith, ap (λ j. watched new (2 * j)) e, p.left, pos_a, z))
  ];
}
  where
    here : (n : ℕ) → lit_var n ≡ k → clause_at (clauses ++ clause ∷ []) (lit_var n) ≡ clause
    here n e = get_or_push clauses clause [] (lit_var n) (omega (arith, e, k_is))

-- one more clause and its unit: what the old watches tell still holds, and the new ones tell it too
pub IsEngine-add : (clauses : List (List ℕ)) (clause : List ℕ) (m b : Trailed) (starts walks : List ℕ) (q new : Queue) (u : ℕ)
    → IsEngine clauses m starts walks q → IsSearch (clauses ++ clause ∷ []) b starts → IsNormal clause → b.vars ≡ m.vars → b.lits ≡ m.lits ++ u ∷ []
    → AreWatches (clauses ++ clause ∷ []) new.watches.literals → new.watches.limit ≡ q.watches.limit → new.watches.waiting ≡ q.watches.waiting
    → new.done ≡ q.done → new.looked ≡ q.looked
    → ((d s : ℕ) → d ≤ length m.lits → (s ≡ length b.lits) ⊎ ((k : ℕ) × (k < length starts) × (s ≡ get_or starts k 0) × (d ≤ s))
    → Halves q.watches.literals (take d b.lits) (take s b.lits) → Halves new.watches.literals (take d b.lits) (take s b.lits))
    → IsEngine (clauses ++ clause ∷ []) b starts walks new
IsEngine-add clauses clause m b starts walks q new u e search normal vars lits watches limit waiting done looked passes =
    let on = q.watches.literals in
    let K : List ℕ → Type 0 = λ xs. KeepsHalves m.lits on xs on in
    let keeps : KeepsHalves m.lits on b.lits on = subst K (sym lits) (KeepsHalves-set m.lits on u) in
    let long : length b.lits ≡ length m.lits + 1 = ap length lits ∙ length_push m.lits u in
    record {
      search = search;
      normal = All-push IsNormal clauses clause e.normal normal;
      queued = record {
        watches = watches;
        limit = limit ∙ (e.queued.limit ∙ ap (λ v. 2 * v + 2) (sym vars));
        none_waits = waiting ∙ e.queued.none_waits;
        few = omega (arith, done, e.queued.few, long);
        most = omega (arith, looked, e.queued.most, length_push clauses clause);
        walked = λ n p h.
            let now : Halves on (take q.done b.lits) b.lits = Halves-kept m.lits on b.lits on q.done keeps e.queued.few e.queued.walked in
            let whole : Halves on (take q.done b.lits) (take (length b.lits) b.lits) = λ i x y. ap (λ xs. is_set xs (watched on (negated i)))
            (take_all (length b.lits) b.lits (omega arith)) ∙ now i x y in
            ap (λ xs. is_set xs (watched new.watches.literals (negated n))) (sym (take_all (length b.lits) b.lits (omega arith)))
            ∙ passes q.done (length b.lits) e.queued.few (inl refl) whole n p
            (ap (λ i. is_set (take i b.lits) (negated (watched new.watches.literals n))) (sym done) ∙ h);
        looked = λ k h w s. elim (cases_lt k (length clauses)) [
          | inl lt ↦
              let old : clause_at (clauses ++ clause ∷ []) k ≡ clause_at clauses k = get_or_append_left clauses (clause ∷ []) [] k lt in
              let P : List ℕ → Type 0 = HasTrue b.lits in
              subst P (sym old) (has_true_set m.lits b.lits (clause_at clauses k) u lits
              (e.queued.looked k (omega (arith, h, looked)) lt (omega (arith, s, ap length old))))
          | inr ge ↦ absurd (omega (arith, h, looked, e.queued.most))
        ];
      };
      levels = e.levels;
      low = e.low;
      below = λ k h.
          passes (get_or walks k 0) (get_or starts k 0) (omega (arith, e.low k h, e.search.within k h)) (inr (k, h, refl, e.low k h))
          (keeps (get_or walks k 0) (get_or starts k 0) (omega (arith, e.low k h, e.search.within k h)) (omega (arith, e.search.within k h)) (e.below k h));
    }

-- what a second watch is, if there is one
abbrev pub IsSecond : List ℕ → List ℕ → ℕ → Option ℕ → Type 0
IsSecond front clause u second =
    MatchOption second (OthersFalse front clause u) (λ l. (is_set clause l ≡ true) × (l ≡ u → ⊥) × (is_set front (negated l) ≡ false))

-- how the watches of the clause at k are put
abbrev pub ArePut : List ℕ → List ℕ → ℕ → ℕ → Option ℕ → Type 0
ArePut on new k u second = MatchOption second (new ≡ on) (λ l. new ≡ set (set on (2 * k) u) (2 * k + 1) l)

-- where all others would be false below the lowest level, there are none
only_unit : (clause : List ℕ) (u : ℕ) → IsNormal clause → ((l : ℕ) → is_set clause l ≡ true → l ≡ u) → length clause < 2
only_unit [] u n all = omega arith
only_unit (x ∷ []) u n all = omega arith
only_unit (x ∷ (y ∷ rest)) u n all =
    let a = all x (is_set_first x (y ∷ rest)) in
    let b = all y (is_set_later x (y ∷ rest) y (is_set_first y rest)) in
    absurd (omega (arith, n.0.0, ap lit_var (a ∙ sym b)))

-- a clause without a second watch has no second literal
pub no_second : (t : Trailed) (starts clause : List ℕ) (level u : ℕ) → IsNormal clause
    → ((k : ℕ) → k < level → OtherOpen (take (get_or starts k 0) t.lits) clause u) → OthersFalse (take (level_floor starts level) t.lits) clause u
    → length clause < 2
no_second t starts clause zero u normal least others = only_unit clause u normal (λ l m. elim (cases_eq l u) [
  | inl e ↦ e
  | inr ne ↦ absurd (false≢true (sym (is_set-nil (negated l)) ∙ others l m ne))
])
no_second t starts clause (suc k) u normal least others =
    let w = least k (omega arith) in absurd (both_ways _ w.3 (others w.0 w.1 w.2))

-- below the level the second watch is not false
floor_open : (lits starts : List ℕ) (level l k : ℕ) → ((j i : ℕ) → j < i → i < length starts → get_or starts j 0 < get_or starts i 0)
    → level < length starts → k < level → is_set (take (level_floor starts level) lits) l ≡ false → is_set (take (get_or starts k 0) lits) l ≡ false
floor_open lits starts zero l k ordered below lt clear = absurd (omega arith)
floor_open lits starts (suc i) l k ordered below lt clear = front_unset lits (get_or starts k 0) (get_or starts i 0) l (elim (cases_eq k i) [
  | inl e ↦ let q = ap (λ j. get_or starts j 0) e in omega arith
  | inr ne ↦ let o = ordered k i (omega arith) (omega arith) in omega arith
]) clear

-- a learnt clause is taken in
pub IsEngine-learn : (clauses : List (List ℕ)) (t b : Trailed) (starts walks : List ℕ) (q more new : Queue) (step : DerivStep) (level u : ℕ)
    (second : Option ℕ) → IsEngine clauses t starts walks q → IsLearnt (search_of t.vars clauses t.lits starts) step level u
    → HasMore q more → 2 * length clauses + 1 < length more.watches.literals
    → IsSecond (take (level_floor starts level) t.lits) step.clause u second → ArePut more.watches.literals new.watches.literals (length clauses) u second
    → new.watches.limit ≡ more.watches.limit → new.watches.waiting ≡ more.watches.waiting → new.done ≡ get_or walks level 0 → new.looked ≡ more.looked
    → b.vars ≡ t.vars → b.lits ≡ take (get_or starts level 0) t.lits ++ u ∷ [] → b.reasons ≡ take (get_or starts level 0) t.reasons ++ length clauses ∷ []
    → IsEngine (clauses ++ step.clause ∷ []) b (take level starts) (take level walks) new
IsEngine-learn clauses t b starts walks q more new step level u second e learnt h room is_second put limit waiting done looked vars lits reasons =
    let n = get_or starts level 0 in
    let m : Trailed = record { vars = t.vars; lits = take n t.lits; reasons = take n t.reasons } in
    let back : Queue = record { watches = q.watches; done = get_or walks level 0; looked = q.looked; starts = q.starts } in
    let e1 = IsEngine-back clauses t m starts walks q back level n e learnt.back.below refl refl refl refl refl in
    let search = IsSearch-learn clauses t b starts step level u e.search learnt vars lits reasons in
    let unset = unit_unset_at clauses t starts step level u e.search learnt in
    let levels : length (take level starts) ≡ level = length-take-le level starts (omega (arith, learnt.back.below)) in
    let pos : 2 ≤ u = (member_from_All (InVars t.vars) step.clause u learnt.in_vars learnt.new.inside).0 in
    elim second as (λ (o : Option ℕ). IsSecond (take (level_floor starts level) t.lits) step.clause u o
    → ArePut more.watches.literals new.watches.literals (length clauses) u o → IsEngine (clauses ++ step.clause ∷ []) b (take level starts)
    (take level walks) new) [
      | None ↦ λ others same.
          let on_new : (i : ℕ) → watched new.watches.literals i ≡ watched q.watches.literals i = λ i. ap (λ xs. watched xs i) same ∙ h.same i in
          IsEngine-add clauses step.clause m b (take level starts) (take level walks) back new u e1 search learnt.normal vars lits
          (AreWatches-short clauses step.clause q.watches.literals new.watches.literals e.queued.watches on_new (omega (arith, room, ap length same))
          (no_second t starts step.clause level u learnt.normal learnt.back.least others))
          (limit ∙ h.limit) (waiting ∙ h.waiting) done (looked ∙ h.looked)
          (λ d s few at. Halves-same q.watches.literals new.watches.literals (take d b.lits) (take s b.lits) on_new)
      | Some l ↦ λ is puts.
          let p1 = pair_from more.watches.literals new.watches.literals (length clauses) u l room puts in
          let p : IsPair q.watches.literals new.watches.literals (length clauses) u l =
          record { left = p1.left; right = p1.right; others = λ i x y. p1.others i x y ∙ h.same i } in
          let pos_l : 2 ≤ l = (member_from_All (InVars t.vars) step.clause l learnt.in_vars is.0).0 in
          let size : length new.watches.literals ≡ length more.watches.literals = ap length puts
          ∙ (length-set (set more.watches.literals (2 * length clauses) u) (2 * length clauses + 1) l ∙ length-set more.watches.literals
          (2 * length clauses) u) in
          IsEngine-add clauses step.clause m b (take level starts) (take level walks) back new u e1 search learnt.normal vars lits
          (AreWatches-pair clauses step.clause q.watches.literals new.watches.literals (length clauses) u l e.queued.watches refl p
          (omega (arith, room, size)) learnt.new.inside is.0 (λ s. is.1 (sym s)) (omega arith) (omega arith))
          (limit ∙ h.limit) (waiting ∙ h.waiting) done (looked ∙ h.looked)
          (λ d s few at.
          let front : take d b.lits ≡ take d (take n t.lits) = ap (take d) lits ∙ take-append-le d (take n t.lits) (u ∷ []) few in
          Halves-pair q.watches.literals new.watches.literals (take d b.lits) (take s b.lits) (length clauses) u l p
          (λ f. absurd (both_ways _ unset.1 (is_set-take d (take n t.lits) (negated u) (ap (λ xs. is_set xs (negated u)) (sym front) ∙ f))))
          (λ f. elim at [
            | inl whole ↦ ap (λ xs. is_set xs u) (ap (λ i. take i b.lits) whole ∙ (take_all (length b.lits) b.lits (omega arith) ∙ lits))
                ∙ (is_set-push (take n t.lits) u u ∙ right (is_set (take n t.lits) u) (eq-eqb u u refl))
            | inr w ↦
                let lt : w.0 < level = omega (arith, w.1, levels) in
                let s_is : s ≡ get_or starts w.0 0 = w.2 ∙ get_or-take level starts w.0 0 lt in
                let o = e.search.ordered w.0 level lt learnt.back.below in
                let low : d ≤ n = omega (arith, w.3, s_is) in
                let at_d : is_set (take d t.lits) (negated l) ≡ true = ap (λ xs. is_set xs (negated l)) (sym (front ∙ take-take d n t.lits low)) ∙ f in
                absurd (both_ways _ (floor_open t.lits starts level (negated l) w.0 e.search.ordered learnt.back.below lt is.2)
                (is_set-take_more d (get_or starts w.0 0) t.lits (omega (arith, w.3, s_is)) (negated l) at_d))
          ]))
    ] is_second put
  where
    right : (a : Bool) {c : Bool} → c ≡ true → (a || c) ≡ true
    right true e = refl
    right false e = e

-- at first no clause is looked at, and no literal is set
pub queued_first : (clauses : List (List ℕ)) (t : Trailed) (q : Queue) → t.lits ≡ [] → AreWatches clauses q.watches.literals
    → q.watches.limit ≡ 2 * t.vars + 2 → q.watches.waiting ≡ [] → q.done ≡ 0 → q.looked ≡ 0 → IsQueued clauses t q
queued_first clauses t q none watches limit waiting done looked = record {
  watches = watches;
  limit = limit;
  none_waits = waiting;
  few = omega (arith, done);
  most = omega (arith, looked);
  walked = λ n p h. absurd (false≢true (sym (is_set-nil (negated (watched q.watches.literals n)))
      ∙ is_set-take q.done [] (negated (watched q.watches.literals n)) (ap (λ xs. is_set (take q.done xs) (negated (watched q.watches.literals n)))
      (sym none) ∙ h)));
  looked = λ k h. absurd (omega (arith, h, looked));
}

-- the first clauses are watched
pub AreWatches-added : (vars : ℕ) (clauses : List (List ℕ)) (clause : List ℕ) (i : ℕ) (old new : Queue) → i < length clauses
    → clause ≡ get_or clauses i clause → All IsNormal clauses → AllInVars vars clauses → AreWatches (take i clauses) old.watches.literals
    → IsAdded i clause old new → AreWatches (take (i + 1) clauses) new.watches.literals
AreWatches-added vars clauses clause i old new h at normal in_vars w a =
    let on = old.watches.literals in
    let into = new.watches.literals in
    let A : List (List ℕ) → Type 0 = λ cs. AreWatches cs into in
    let N : List ℕ → Type 0 = IsNormal in
    let V : List ℕ → Type 0 = λ c. All (InVars vars) c in
    let is_normal : IsNormal clause = subst N (sym at) (normal i clause h) in
    let inside : All (InVars vars) clause = subst V (sym at) (in_vars i clause h) in
    let more : take (i + 1) clauses ≡ take i clauses ++ clause ∷ [] = take_more clauses i clause h ∙ ap (λ c. take i clauses ++ c ∷ []) (sym at) in
    let long : length (take i clauses) ≡ i = length-take-le i clauses (omega arith) in
    subst A (sym more) (elim (cases_lt (length clause) 2) [
      | inl few ↦ AreWatches-short (take i clauses) clause on into w (a.none few) (omega (arith, long, a.room)) few
      | inr many ↦
          let at_0 = is_set-at clause 0 (omega arith) in
          let at_1 = is_set-at clause 1 (omega arith) in
          let p : IsPair on into i (get_or clause 0 0) (get_or clause 1 0) = record { left = a.first many; right = a.second many; others = a.others } in
          AreWatches-pair (take i clauses) clause on into i (get_or clause 0 0) (get_or clause 1 0) w (sym long) p a.room at_0 at_1
          (first_two clause is_normal many)
          (omega (arith, (member_from_All (InVars vars) clause (get_or clause 0 0) inside at_0).0))
          (omega (arith, (member_from_All (InVars vars) clause (get_or clause 1 0) inside at_1).0))
    ])
  where
    first_two : (c : List ℕ) → IsNormal c → 2 ≤ length c → get_or c 0 0 ≡ get_or c 1 0 → ⊥
    first_two [] n many e = omega arith
    first_two (x ∷ []) n many e = omega arith
    first_two (x ∷ (y ∷ rest)) n many e = omega (arith, n.0.0, ap lit_var e)

pub floor_suc : (starts : List ℕ) (level : ℕ) → (level ≡ 0 → ⊥) → level_floor starts level ≡ get_or starts (level - 1) 0
floor_suc starts zero h = absurd (h refl)
floor_suc starts (suc k) h = ap (λ i. get_or starts i 0) (omega arith)

-- there are no more levels than set literals
pub levels_few : (clauses : List (List ℕ)) (t : Trailed) (starts : List ℕ) → IsSearch clauses t starts → length starts ≤ length t.lits
levels_few clauses t starts s = elim (cases_lt 0 (length starts)) [
  | inl some ↦ omega (arith, s.deep (length starts - 1) (omega arith), s.within (length starts - 1) (omega arith))
  | inr none ↦ omega arith
]

AreWatches-more : (clauses : List (List ℕ)) (on new : List ℕ) → AreWatches clauses on → ((n : ℕ) → watched new n ≡ watched on n)
    → length on ≤ length new → AreWatches clauses new
AreWatches-more clauses on new w same longer = record {
  room = omega (arith, w.room);
  spare = λ n h. same n ∙ w.spare n h;
  inside = λ n h. ap (is_set (clause_at clauses (lit_var n))) (same n) ∙ w.inside n (omega (arith, h, same n));
  both = λ n h. omega (arith, same (negated n), w.both n (omega (arith, h, same n)));
  apart = λ n h e. w.apart n (omega (arith, h, same n)) (sym (same n) ∙ (e ∙ same (negated n)));
  short = λ k h z. w.short k h (sym (same (2 * k)) ∙ z);
}

-- more watches, on no literal, change nothing
pub IsEngine-more : (clauses : List (List ℕ)) (t : Trailed) (starts walks : List ℕ) (q more : Queue) → IsEngine clauses t starts walks q
    → HasMore q more → IsEngine clauses t starts walks more
IsEngine-more clauses t starts walks q more e h = record {
  search = e.search;
  normal = e.normal;
  queued = record {
    watches = AreWatches-more clauses q.watches.literals more.watches.literals e.queued.watches h.same h.longer;
    limit = h.limit ∙ e.queued.limit;
    none_waits = h.waiting ∙ e.queued.none_waits;
    few = omega (arith, h.done, e.queued.few);
    most = omega (arith, h.looked, e.queued.most);
    walked = λ n p f.
        ap (is_set t.lits) (h.same (negated n))
        ∙ e.queued.walked n (omega (arith, p, h.same n)) (ap (λ i. is_set (take i t.lits) (negated (watched q.watches.literals n))) (sym h.done)
        ∙ (ap (λ l. is_set (take more.done t.lits) (negated l)) (sym (h.same n)) ∙ f));
    looked = λ k w i s. e.queued.looked k (omega (arith, w, h.looked)) i s;
  };
  levels = e.levels;
  low = e.low;
  below = λ k w. Halves-same q.watches.literals more.watches.literals (take (get_or walks k 0) t.lits) (take (get_or starts k 0) t.lits) h.same (e.below k w);
}

pub AreWatches-none : (on : List ℕ) → on ≡ [] → AreWatches [] on
AreWatches-none on e = record {
  room = omega arith;
  spare = λ n h. none n;
  inside = λ n h. absurd (omega (arith, h, none n));
  both = λ n h. absurd (omega (arith, h, none n));
  apart = λ n h s. absurd (omega (arith, h, none n));
  short = λ k h. absurd (omega arith);
}
  where
    none : (n : ℕ) → watched on n ≡ 0
    none n = ap (λ xs. get_or xs n 0) e ∙ get_or_past {X = ℕ} [] n 0 (omega arith)

-- at first there is no level
pub IsEngine-first : (clauses : List (List ℕ)) (t : Trailed) (q : Queue) → t.lits ≡ [] → t.reasons ≡ [] → AllInVars t.vars clauses
    → All IsNormal clauses → IsQueued clauses t q → IsEngine clauses t [] [] q
IsEngine-first clauses t q lits reasons in_vars normal queued = record {
  search = record {
    in_vars = in_vars;
    ordered = λ j k h w. absurd (omega arith);
    deep = λ k w. absurd (omega arith);
    within = λ k w. absurd (omega arith);
    quiet = λ k w. absurd (omega arith);
    paired = ap length reasons ∙ sym (ap length lits);
    justified = λ i h. absurd (omega (arith, h, ap length lits));
  };
  normal = normal;
  queued = queued;
  levels = refl;
  low = λ k h. absurd (omega arith);
  below = λ k h. absurd (omega arith);
}

-- the second watch is of the formula's variables
pub second_low : (vars limit : ℕ) (front clause : List ℕ) (u : ℕ) (second : Option ℕ) → IsSecond front clause u second → All (InVars vars) clause
    → limit ≡ 2 * vars + 2 → IfSome second (λ l. l < limit)
second_low vars limit front clause u None is inside e = tt
second_low vars limit front clause u (Some l) is inside e = let v = member_from_All (InVars vars) clause l inside is.0 in omega (arith, e, v.1)
