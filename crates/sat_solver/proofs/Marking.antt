-- Marks through the resolution of a conflict.
use Rattle.std.proofs.Common.{◌≡◌, ℕ, zero, suc, ◌+◌, ◌-◌, ◌<◌, ◌≤◌, ◌⊎◌, Bool, true, false, ◌&&◌, ◌||◌, not, eqb, Some, List, [], ◌∷◌, ◌++◌, map, filter}
use Rattle.std.proofs.Common.{length, get_or, take, drop, slice_get, refl, sym, ap, ◌∙◌, subst, inl, inr, arith}
use Rattle.std.specs.List.{IsDistinct, AllByRecursion}
use Rattle.std.proofs.lemmas.Bool.{false≢true, cases_Bool, cases_eq, or_cases, or_left, or_right, and_parts, and_from, and_left, and_right}
use Rattle.std.proofs.lemmas.Bool.{eqb-true, eqb-false, eq-eqb, ne_eqb, both_ways, false_from_ne_true, not_from_false, not_from_true}
use Rattle.std.proofs.lemmas.List.{get_or-take, take-append-drop}
use Rattle.std.proofs.lemmas.Option.{get_or_from_slice_get}
use Rattle.proof_log.specs.Literals.{lit_var, negated}
use Rattle.proof_log.specs.Clauses.{is_set, IsUnitUnder}
use Rattle.proof_log.proofs.LiteralLemmas.{negated-negated, negated_other, lit_var-negated}
use Rattle.proof_log.proofs.Members.{is_set-nil, is_set-cons, is_set-push, is_set-take, is_set-drop, is_set_first, filter_mem, mem_filter, map_mem, mem_map}
use Rattle.proof_log.proofs.Members.{not_true_false, other_var, distinct_var, or-false}
use Rattle.sat_solver.specs.Searches.{IsUnitAt, IsFalseAt}
use Rattle.sat_solver.specs.Learning.{OthersFalse}
use Rattle.sat_solver.specs.Watches.{clause_at}
use Rattle.sat_solver.specs.Cuts.{FalseBy, CutState, resolvent, ResolvedAt, IsUnitCut, ResolvedBelow, IsAsserting}
use Rattle.sat_solver.specs.Markings.{Marked, is_marked, marked_lits, marked_count, IsGathered, AreBetween, AreMarked, AreReplaced}
use Rattle.sat_solver.proofs.OpenClauses.{FalseBy-from_false, unit_others, only}
use Rattle.sat_solver.proofs.Trailing.{place_from_member, parts_apart, at_front, at_back, is_set-take_more, in_left, in_right, in_either}
use Rattle.sat_solver.proofs.Analyzing.{OthersFalse-at_decision}
use Rattle.sat_solver.proofs.AtConflict.{drop_take}
use Rattle.sat_solver.proofs.Cutting.{CutState-start, some_same, walk_step, BelowState, BelowState-step}

-- two answers are the same where each is true with the other
pub same_Bool : (a b : Bool) → (a ≡ true → b ≡ true) → (b ≡ true → a ≡ true) → a ≡ b
same_Bool true true f g = refl
same_Bool true false f g = sym (f refl)
same_Bool false true f g = g refl
same_Bool false false f g = refl

-- one more variable is marked
pub record IsOneMore (old new : Marked) (x : ℕ) : Type 0 where
  pub absent : is_marked old x ≡ false
  pub more : (v : ℕ) → is_marked new v ≡ (is_marked old v || eqb x v)

-- the others are as before
other_mark : (old new : Marked) (x v : ℕ) → IsOneMore old new x → (x ≡ v → ⊥) → is_marked new v ≡ is_marked old v
other_mark old new x v m ne = m.more v ∙ (ap (λ b. is_marked old v || b) (ne_eqb x v ne) ∙ or-false (is_marked old v))

-- and it is marked
now_marked : (old new : Marked) (x : ℕ) → IsOneMore old new x → is_marked new x ≡ true
now_marked old new x m = m.more x ∙ or_right (is_marked old x) _ (eq-eqb x x refl)

-- a count is the same of literals of other variables
count_other : (old new : Marked) (x : ℕ) (lits : List ℕ) → IsOneMore old new x → ((l : ℕ) → is_set lits l ≡ true → lit_var l ≡ x → ⊥)
    → marked_count new lits ≡ marked_count old lits
count_other old new x [] m apart = refl
count_other old new x (l ∷ ls) m apart =
    let rest = count_other old new x ls m (λ q h. apart q (is_set-cons l ls q ∙ or_right _ _ h)) in
    let same = other_mark old new x (lit_var l) m (λ e. apart l (is_set_first l ls) (sym e)) in
    elim (cases_Bool (is_marked old (lit_var l))) [
      | inl t ↦ rw (same, t) (ap suc rest)
      | inr f ↦ rw (same, f) rest
    ]

-- and one more where one of the literals is of the variable
count_more : (old new : Marked) (x l : ℕ) (lits : List ℕ) → IsOneMore old new x → IsDistinct eqb (map lit_var lits) → is_set lits l ≡ true
    → lit_var l ≡ x → marked_count new lits ≡ marked_count old lits + 1
unfolding IsDistinct
count_more old new x l [] m d h e = absurd (false≢true (sym (is_set-nil l) ∙ h))
count_more old new x l (q ∷ qs) m d h e =
    elim (or_cases (eqb q l) (is_set qs l) (sym (is_set-cons q qs l) ∙ h)) [
      | inl here ↦
          let same : lit_var q ≡ x = ap lit_var (eqb-true q l here) ∙ e in
          let rest = count_other old new x qs m (λ p t k. other_var q qs d.0 p t (same ∙ sym k)) in
          let was : is_marked old (lit_var q) ≡ false = ap (is_marked old) same ∙ m.absent in
          let now : is_marked new (lit_var q) ≡ true = ap (is_marked new) same ∙ now_marked old new x m in
          rw (was, now) (omega (arith, rest))
      | inr later ↦
          let rest = count_more old new x l qs m d.1 later e in
          let same = other_mark old new x (lit_var q) m (λ k. other_var q qs d.0 l later (sym k ∙ sym e)) in
          elim (cases_Bool (is_marked old (lit_var q))) [
            | inl t ↦ rw (same, t) (omega (arith, rest))
            | inr f ↦ rw (same, f) rest
          ]
    ]

-- where no variable is marked the count is 0
pub count_none : (m : Marked) (lits : List ℕ) → ((v : ℕ) → is_marked m v ≡ false) → marked_count m lits ≡ 0
count_none m [] none = refl
count_none m (l ∷ ls) none = rw (none (lit_var l)) (count_none m ls none)

-- where the count is 0, none of the literals is of a marked variable
count_zero : (m : Marked) (lits : List ℕ) (l : ℕ) → marked_count m lits ≡ 0 → is_set lits l ≡ true → is_marked m (lit_var l) ≡ false
count_zero m lits l zero_is h = false_from_ne_true _ (λ t.
    let w = place_from_member (filter (λ q. is_marked m (lit_var q)) lits) l (filter_mem (λ q. is_marked m (lit_var q)) lits l h t) in
    absurd (omega (arith, w.1, zero_is)))

-- where it is 1, only one is
count_one : (m : Marked) (lits : List ℕ) (l q : ℕ) → marked_count m lits ≡ 1 → is_set lits l ≡ true → is_marked m (lit_var l) ≡ true
    → is_set lits q ≡ true → is_marked m (lit_var q) ≡ true → l ≡ q
count_one m lits l q one_is hl ml hq mq =
    let F : List ℕ = filter (λ p. is_marked m (lit_var p)) lits in
    let a = place_from_member F l (filter_mem (λ p. is_marked m (lit_var p)) lits l hl ml) in
    let b = place_from_member F q (filter_mem (λ p. is_marked m (lit_var p)) lits q hq mq) in
    let same : a.0 ≡ b.0 = omega (arith, a.1, b.1, one_is) in
    sym a.2 ∙ (ap (λ i. get_or F i 0) same ∙ b.2)

-- a count is at most as great as there are literals
pub count_few : (m : Marked) (lits : List ℕ) → marked_count m lits ≤ length lits
count_few m [] = omega arith
count_few m (l ∷ ls) =
    let rest = count_few m ls in
    elim (cases_Bool (is_marked m (lit_var l))) [ inl t ↦ rw t (omega (arith, rest)) | inr f ↦ rw f (omega (arith, rest)) ]

pub count_drop : (m : Marked) (n : ℕ) (lits : List ℕ) → marked_count m (drop n lits) ≤ length lits
count_drop m zero lits = count_few m lits
count_drop m (suc n) [] = omega arith
count_drop m (suc n) (l ∷ ls) = let rest = count_drop m n ls in omega (arith, rest)

pub count_take : (m : Marked) (n : ℕ) (lits : List ℕ) → marked_count m (take n lits) ≤ length lits
count_take m zero lits = omega arith
count_take m (suc n) [] = omega arith
count_take m (suc n) (l ∷ ls) =
    let rest = count_take m n ls in
    elim (cases_Bool (is_marked m (lit_var l))) [ inl t ↦ rw t (omega (arith, rest)) | inr f ↦ rw f (omega (arith, rest)) ]

-- the marked literals are those that are false and of a marked variable
pub marked_from : (m : Marked) (trail : List ℕ) (l : ℕ) → is_set (marked_lits m trail) l ≡ true
    → (is_set trail (negated l) ≡ true) × (is_marked m (lit_var l) ≡ true)
marked_from m trail l h =
    let r = mem_filter (λ q. is_marked m (lit_var q)) (map negated trail) l h in
    (mem_map trail l r.0, r.1)

pub marked_to : (m : Marked) (trail : List ℕ) (l : ℕ) → is_set trail (negated l) ≡ true → is_marked m (lit_var l) ≡ true
    → is_set (marked_lits m trail) l ≡ true
marked_to m trail l h k =
    filter_mem (λ q. is_marked m (lit_var q)) (map negated trail) l
    (ap (is_set (map negated trail)) (sym (negated-negated l)) ∙ map_mem trail (negated l) h) k

-- a set literal's variable is not among those of the literals between, where its place is above or below
between_out : (trail : List ℕ) (base start place q : ℕ) → IsDistinct eqb (map lit_var trail) → place < length trail
    → (start ≤ place) ⊎ (place < base) → is_set (drop base (take start trail)) q ≡ true → lit_var q ≡ lit_var (get_or trail place 0) → ⊥
between_out trail base start place q d within (inl up) h e =
    parts_apart start trail d q (get_or trail place 0) (is_set-drop base (take start trail) q h) (at_back trail place start within up) e
between_out trail base start place q d within (inr low) h e =
    parts_apart base trail d (get_or trail place 0) q (at_front trail place base within low) (drop_take base start trail q h).0 (sym e)

-- what is between stays where the variable is above or below
between_same : (trail : List ℕ) (base start place l : ℕ) (old new : Marked) (x : ℕ) → IsDistinct eqb (map lit_var trail) → place < length trail
    → (start ≤ place) ⊎ (place < base) → IsOneMore old new x → lit_var (get_or trail place 0) ≡ x
    → (is_set (drop base (take start trail)) (negated l) && is_marked new (lit_var l))
    ≡ (is_set (drop base (take start trail)) (negated l) && is_marked old (lit_var l))
between_same trail base start place l old new x d within out m e =
    elim (cases_Bool (is_set (drop base (take start trail)) (negated l))) [
      | inl t ↦ ap (λ b. is_set (drop base (take start trail)) (negated l) && b) (other_mark old new x (lit_var l) m (λ k.
          between_out trail base start place (negated l) d within out t (lit_var-negated l ∙ (sym k ∙ sym e))))
      | inr f ↦ and_left _ _ f ∙ sym (and_left _ _ f)
    ]

distinct_drop : (n : ℕ) (xs : List ℕ) → IsDistinct eqb (map lit_var xs) → IsDistinct eqb (map lit_var (drop n xs))
unfolding IsDistinct
distinct_drop zero xs d = d
distinct_drop (suc n) [] d = d
distinct_drop (suc n) (x ∷ xs) d = distinct_drop n xs d.1

-- a literal's variable counts above, and not below
above_counts : (trail : List ℕ) (base start place : ℕ) (old new : Marked) (x : ℕ) → IsDistinct eqb (map lit_var trail) → place < length trail
    → base ≤ start → start ≤ place → IsOneMore old new x → lit_var (get_or trail place 0) ≡ x
    → (marked_count new (drop start trail) ≡ marked_count old (drop start trail) + 1)
    × (marked_count new (take base trail) ≡ marked_count old (take base trail))
above_counts trail base start place old new x d within low up m e = (
  count_more old new x (get_or trail place 0) (drop start trail) m (distinct_drop start trail d) (at_back trail place start within up) e,
  count_other old new x (take base trail) m (λ q h k.
      parts_apart base trail d q (get_or trail place 0) h (at_back trail place base within (omega arith)) (k ∙ sym e)),
)

-- one's counts below, and not above
below_counts : (trail : List ℕ) (base start place : ℕ) (old new : Marked) (x : ℕ) → IsDistinct eqb (map lit_var trail) → place < length trail
    → base ≤ start → place < base → IsOneMore old new x → lit_var (get_or trail place 0) ≡ x
    → (marked_count new (drop start trail) ≡ marked_count old (drop start trail))
    × (marked_count new (take base trail) ≡ marked_count old (take base trail) + 1)
unfolding IsDistinct
below_counts trail base start place old new x d within low down m e = (
  count_other old new x (drop start trail) m (λ q h k.
      parts_apart start trail d (get_or trail place 0) q (at_front trail place start within (omega arith)) h (e ∙ sym k)),
  count_more old new x (get_or trail place 0) (take base trail) m (distinct_take base trail d) (at_front trail place base within down) e,
)
  where
    all_take : (n : ℕ) (p : ℕ) (xs : List ℕ) → AllByRecursion (λ y. eqb (lit_var p) y ≡ false) (map lit_var xs)
        → AllByRecursion (λ y. eqb (lit_var p) y ≡ false) (map lit_var (take n xs))
    all_take zero p xs a = tt
    all_take (suc n) p [] a = tt
    all_take (suc n) p (x ∷ xs) a = (a.0, all_take n p xs a.1)

    distinct_take : (n : ℕ) (xs : List ℕ) → IsDistinct eqb (map lit_var xs) → IsDistinct eqb (map lit_var (take n xs))
    distinct_take zero xs d = tt
    distinct_take (suc n) [] d = tt
    distinct_take (suc n) (x ∷ xs) d = (all_take n x xs d.0, distinct_take n xs d.1)

-- one's counts neither above nor below
between_counts : (trail : List ℕ) (base start place : ℕ) (old new : Marked) (x : ℕ) → IsDistinct eqb (map lit_var trail) → place < length trail
    → base ≤ place → place < start → IsOneMore old new x → lit_var (get_or trail place 0) ≡ x
    → (marked_count new (drop start trail) ≡ marked_count old (drop start trail))
    × (marked_count new (take base trail) ≡ marked_count old (take base trail))
between_counts trail base start place old new x d within low down m e = (
  count_other old new x (drop start trail) m (λ q h k.
      parts_apart start trail d (get_or trail place 0) q (at_front trail place start within down) h (e ∙ sym k)),
  count_other old new x (take base trail) m (λ q h k.
      parts_apart base trail d q (get_or trail place 0) h (at_back trail place base within low) (k ∙ sym e)),
)

-- what is gathered where a literal is marked that the literal at that place makes false, above
pub IsGathered-above : (trail : List ℕ) (base start up down : ℕ) (lits : List ℕ) (old marks : Marked) (l place : ℕ)
    → IsDistinct eqb (map lit_var trail) → place < length trail → get_or trail place 0 ≡ negated l → start ≤ place
    → IsOneMore old marks (lit_var l) → IsGathered trail base start old lits up down → IsGathered trail base start marks lits (up + 1) down
IsGathered-above trail base start up down lits old marks l place d within at high m g =
    let e : lit_var (get_or trail place 0) ≡ lit_var l = ap lit_var at ∙ lit_var-negated l in
    let counts = above_counts trail base start place old marks (lit_var l) d within g.low high m e in
    record {
      low = g.low;
      between = λ q. g.between q ∙ sym (between_same trail base start place q old marks (lit_var l) d within (inl high) m e);
      above = omega (arith, g.above, counts.0);
      below = g.below ∙ sym counts.1;
    }

pub IsGathered-below : (trail : List ℕ) (base start up down : ℕ) (lits : List ℕ) (old marks : Marked) (l place : ℕ)
    → IsDistinct eqb (map lit_var trail) → place < length trail → get_or trail place 0 ≡ negated l → place < base
    → IsOneMore old marks (lit_var l) → IsGathered trail base start old lits up down → IsGathered trail base start marks lits up (down + 1)
IsGathered-below trail base start up down lits old marks l place d within at under m g =
    let e : lit_var (get_or trail place 0) ≡ lit_var l = ap lit_var at ∙ lit_var-negated l in
    let counts = below_counts trail base start place old marks (lit_var l) d within g.low under m e in
    record {
      low = g.low;
      between = λ q. g.between q ∙ sym (between_same trail base start place q old marks (lit_var l) d within (inr under) m e);
      above = g.above ∙ sym counts.0;
      below = omega (arith, g.below, counts.1);
    }

pub IsGathered-between : (trail : List ℕ) (base start up down : ℕ) (lits : List ℕ) (old marks : Marked) (l place : ℕ)
    → IsDistinct eqb (map lit_var trail) → place < length trail → get_or trail place 0 ≡ negated l → base ≤ place → place < start
    → IsOneMore old marks (lit_var l) → IsGathered trail base start old lits up down → IsGathered trail base start marks (lits ++ l ∷ []) up down
IsGathered-between trail base start up down lits old marks l place d within at high under m g =
    let e : lit_var (get_or trail place 0) ≡ lit_var l = ap lit_var at ∙ lit_var-negated l in
    let counts = between_counts trail base start place old marks (lit_var l) d within high under m e in
    let inside : List ℕ = drop base (take start trail) in
    let there : is_set inside (negated l) ≡ true = ap (is_set inside) (sym at)
    ∙ (ap (is_set inside) (sym (get_or-take start trail place 0 under))
    ∙ at_back (take start trail) place base (front_long place start trail under within) high) in
    record {
      low = g.low;
      between = λ q. is_set-push lits l q ∙ same_Bool _ _
          (λ h. elim (or_cases (is_set lits q) (eqb l q) h) [
            | inl t ↦
                let b = and_parts _ _ (sym (g.between q) ∙ t) in
                and_from _ _ b.0 (m.more (lit_var q) ∙ or_left _ _ b.1)
            | inr t ↦
                let same = eqb-true l q t in
                and_from _ _ (ap (λ p. is_set inside (negated p)) (sym same) ∙ there) (ap (λ p. is_marked marks (lit_var p)) (sym same)
                ∙ now_marked old marks (lit_var l) m)
          ])
          (λ h.
          let b = and_parts (is_set inside (negated q)) (is_marked marks (lit_var q)) h in
          elim (or_cases (is_marked old (lit_var q)) (eqb (lit_var l) (lit_var q)) (sym (m.more (lit_var q)) ∙ b.1)) [
            | inl t ↦ or_left _ _ (g.between q ∙ and_from _ _ b.0 t)
            | inr t ↦ or_right _ _ (eq-eqb l q (sym (negated-negated l) ∙ (ap negated (distinct_var trail d (negated l) (negated q)
                (is_set-take start trail (negated l) (drop_take base start trail (negated l) there).1)
                (is_set-take start trail (negated q) (drop_take base start trail (negated q) b.0).1)
                (lit_var-negated l ∙ (eqb-true (lit_var l) (lit_var q) t ∙ sym (lit_var-negated q)))) ∙ negated-negated q)))
          ]);
      above = g.above ∙ sym counts.0;
      below = g.below ∙ sym counts.1;
    }
  where
    front_long : (at end : ℕ) (xs : List ℕ) → at < end → at < length xs → at < length (take end xs)
    front_long at zero xs lt h = absurd (omega arith)
    front_long at (suc end) [] lt h = absurd (omega arith)
    front_long zero (suc end) (x ∷ xs) lt h = omega arith
    front_long (suc at) (suc end) (x ∷ xs) lt h = omega (arith, front_long at end xs (omega arith) (omega arith))

-- a mark is taken off
pub one_less : (old new : Marked) (x : ℕ) → is_marked old x ≡ true → ((v : ℕ) → is_marked new v ≡ (is_marked old v && not (eqb x v)))
    → IsOneMore new old x
one_less old new x on off = record {
  absent = off x ∙ and_right _ _ (not_from_true _ (eq-eqb x x refl));
  more = λ v. elim (cases_eq x v) [
    | inl e ↦ ap (is_marked old) (sym e) ∙ (on ∙ sym (or_right _ _ (eq-eqb x v e)))
    | inr ne ↦ sym (ap (λ b. b || eqb x v) (off v) ∙ (rw (ne_eqb x v ne) (kept (is_marked old v))))
  ];
}
  where
    kept : (b : Bool) → ((b && not false) || false) ≡ b
    kept true = refl
    kept false = refl

-- what is gathered where the mark is taken off of the variable of the literal at that place, above
pub IsGathered-off_above : (trail : List ℕ) (base start up down : ℕ) (lits : List ℕ) (old marks : Marked) (place x : ℕ)
    → IsDistinct eqb (map lit_var trail) → place < length trail → lit_var (get_or trail place 0) ≡ x → start ≤ place → IsOneMore marks old x
    → IsGathered trail base start old lits up down → IsGathered trail base start marks lits (up - 1) down
IsGathered-off_above trail base start up down lits old marks place x d within e high m g =
    let counts = above_counts trail base start place marks old x d within g.low high m e in
    record {
      low = g.low;
      between = λ q. g.between q ∙ between_same trail base start place q marks old x d within (inl high) m e;
      above = omega (arith, g.above, counts.0);
      below = g.below ∙ counts.1;
    }

-- and below
pub IsGathered-off_below : (trail : List ℕ) (base start up down : ℕ) (lits : List ℕ) (old marks : Marked) (place x : ℕ)
    → IsDistinct eqb (map lit_var trail) → place < length trail → lit_var (get_or trail place 0) ≡ x → place < base → IsOneMore marks old x
    → IsGathered trail base start old lits up down → IsGathered trail base start marks lits up (down - 1)
IsGathered-off_below trail base start up down lits old marks place x d within e under m g =
    let counts = below_counts trail base start place marks old x d within g.low under m e in
    record {
      low = g.low;
      between = λ q. g.between q ∙ between_same trail base start place q marks old x d within (inr under) m e;
      above = g.above ∙ counts.0;
      below = omega (arith, g.below, counts.1);
    }

-- of a mark that is taken off, there was one
pub count_some_above : (trail : List ℕ) (base start up down : ℕ) (lits : List ℕ) (m : Marked) (place : ℕ)
    → IsGathered trail base start m lits up down → place < length trail → start ≤ place → is_marked m (lit_var (get_or trail place 0)) ≡ true → 0 < up
count_some_above trail base start up down lits m place g within high on =
    elim (cases_eq up 0) [
      | inl z ↦ absurd (both_ways _ (count_zero m (drop start trail) (get_or trail place 0) (sym g.above ∙ z)
          (at_back trail place start within high)) on)
      | inr ne ↦ omega arith
    ]

pub count_some_below : (trail : List ℕ) (base start up down : ℕ) (lits : List ℕ) (m : Marked) (place : ℕ)
    → IsGathered trail base start m lits up down → place < length trail → place < base → is_marked m (lit_var (get_or trail place 0)) ≡ true → 0 < down
count_some_below trail base start up down lits m place g within under on =
    elim (cases_eq down 0) [
      | inl z ↦ absurd (both_ways _ (count_zero m (take base trail) (get_or trail place 0) (sym g.below ∙ z)
          (at_front trail place base within under)) on)
      | inr ne ↦ omega arith
    ]

-- nothing is gathered where nothing is marked
pub IsGathered-none : (trail : List ℕ) (base start : ℕ) (m : Marked) → base ≤ start → ((v : ℕ) → is_marked m v ≡ false)
    → IsGathered trail base start m [] 0 0
IsGathered-none trail base start m low none = record {
  low = low;
  between = λ l. is_set-nil l ∙ sym (and_right _ _ (none (lit_var l)));
  above = sym (count_none m (drop start trail) none);
  below = sym (count_none m (take base trail) none);
}

-- no literal of a clause is marked yet
pub AreMarked-none : (trail : List ℕ) (m : Marked) → AreMarked trail [] m m
AreMarked-none trail m l h = sym (ap (λ b. is_marked m (lit_var l) || b) (is_set-nil l) ∙ or-false (is_marked m (lit_var l)))

-- a literal that is not false, or is marked already, changes nothing
pub mark_skipped : (trail : List ℕ) (m : Marked) (l : ℕ) → (is_set trail (negated l) ≡ true → is_marked m (lit_var l) ≡ true) → (q : ℕ)
    → is_set trail (negated q) ≡ true → is_marked m (lit_var q) ≡ (is_marked m (lit_var q) || eqb l q)
mark_skipped trail m l on q h =
    elim (cases_eq l q) [
      | inl e ↦
          let t : is_marked m (lit_var q) ≡ true = ap (λ p. is_marked m (lit_var p)) (sym e) ∙ on (ap (λ p. is_set trail (negated p)) e ∙ h) in
          t ∙ sym (or_left _ _ t)
      | inr ne ↦ sym (ap (λ b. is_marked m (lit_var q) || b) (ne_eqb l q ne) ∙ or-false (is_marked m (lit_var q)))
    ]

-- of the false literals one more is marked
pub mark_added : (trail : List ℕ) (old new : Marked) (l : ℕ) → IsDistinct eqb (map lit_var trail) → is_set trail (negated l) ≡ true
    → ((v : ℕ) → is_marked new v ≡ (is_marked old v || eqb (lit_var l) v)) → (q : ℕ) → is_set trail (negated q) ≡ true
    → is_marked new (lit_var q) ≡ (is_marked old (lit_var q) || eqb l q)
mark_added trail old new l d there m q h =
    let same : eqb (lit_var l) (lit_var q) ≡ eqb l q = same_Bool _ _
    (λ t. eq-eqb l q (sym (negated-negated l) ∙ (ap negated (distinct_var trail d (negated l) (negated q) there h
    (lit_var-negated l ∙ (eqb-true (lit_var l) (lit_var q) t ∙ sym (lit_var-negated q)))) ∙ negated-negated q)))
    (λ t. eq-eqb (lit_var l) (lit_var q) (ap lit_var (eqb-true l q t))) in
    m (lit_var q) ∙ ap (λ b. is_marked old (lit_var q) || b) same

-- one more literal of the clause is marked, if it is false
pub AreMarked-more : (trail clause more : List ℕ) (old mid new : Marked) (l : ℕ) → more ≡ clause ++ l ∷ []
    → ((q : ℕ) → is_set trail (negated q) ≡ true → is_marked new (lit_var q) ≡ (is_marked mid (lit_var q) || eqb l q)) → AreMarked trail clause old mid
    → AreMarked trail more old new
AreMarked-more trail clause more old mid new l e m a q h =
    m q h ∙ (ap (λ b. b || eqb l q) (a q h) ∙ (or_shift (is_marked old (lit_var q)) (is_set clause q) (eqb l q)
    ∙ ap (λ b. is_marked old (lit_var q) || b) (sym (is_set-push clause l q) ∙ ap (λ xs. is_set xs q) (sym e))))
  where
    or_shift : (a b c : Bool) → ((a || b) || c) ≡ (a || (b || c))
    or_shift true b c = refl
    or_shift false b c = refl

-- a mark is taken off, and then the literals of the reason are marked
pub AreReplaced-from : (trail reason : List ℕ) (p : ℕ) (old mid new : Marked)
    → ((v : ℕ) → is_marked mid v ≡ (is_marked old v && not (eqb (lit_var p) v))) → AreMarked trail reason mid new → AreReplaced trail p reason old new
AreReplaced-from trail reason p old mid new off on l h = on l h ∙ ap (λ b. b || is_set reason l) (off (lit_var l))

-- the marked literals are those of the resolvent
resolved_marks : (trail front reason : List ℕ) (old new : Marked) (p : ℕ) → IsDistinct eqb (map lit_var trail) → is_set trail p ≡ true
    → ((l : ℕ) → is_set front l ≡ true → is_set trail l ≡ true) → IsUnitUnder front reason p → AreReplaced trail p reason old new
    → (l : ℕ) → is_set (marked_lits new trail) l ≡ is_set (resolvent (marked_lits old trail) p reason) l
resolved_marks trail front reason old new p d there sub unit replaced l = same_Bool _ _
    (λ h.
    let w = marked_from new trail l h in
    elim (or_cases _ _ (sym (replaced l w.0) ∙ w.1)) [
      | inl t ↦
          let b = and_parts (is_marked old (lit_var l)) (not (eqb (lit_var p) (lit_var l))) t in
          let ne : l ≡ negated p → ⊥ = λ e. eqb-false _ _ (not_true_false _ b.1) (sym (ap lit_var e ∙ lit_var-negated p)) in
          in_left (filter (λ q. not (eqb q (negated p))) (marked_lits old trail)) (filter (λ q. not (eqb q p)) reason) l
          (filter_mem (λ q. not (eqb q (negated p))) (marked_lits old trail) l (marked_to old trail l w.0 b.0)
          (not_from_false _ (ne_eqb l (negated p) ne)))
      | inr t ↦
          in_right (filter (λ q. not (eqb q (negated p))) (marked_lits old trail)) (filter (λ q. not (eqb q p)) reason) l
          (filter_mem (λ q. not (eqb q p)) reason l t (not_from_false _ (ne_eqb l p (λ e. not_both (ap (λ q. is_set trail (negated q)) (sym e) ∙ w.0)))))
    ])
    (λ h. elim (in_either (filter (λ q. not (eqb q (negated p))) (marked_lits old trail)) (filter (λ q. not (eqb q p)) reason) l h) [
      | inl t ↦
          let f = mem_filter (λ q. not (eqb q (negated p))) (marked_lits old trail) l t in
          let w = marked_from old trail l f.0 in
          let ne : lit_var p ≡ lit_var l → ⊥ = λ e. eqb-false _ _ (not_true_false _ f.1)
          (sym (negated-negated l) ∙ ap negated (distinct_var trail d (negated l) p w.0 there (lit_var-negated l ∙ sym e))) in
          marked_to new trail l w.0 (replaced l w.0 ∙ or_left _ _ (and_from _ _ w.1 (not_from_false _ (ne_eqb (lit_var p) (lit_var l) ne))))
      | inr t ↦
          let f = mem_filter (λ q. not (eqb q p)) reason l t in
          let falsified = sub (negated l) (unit_others front reason p l unit f.0 (eqb-false _ _ (not_true_false _ f.1))) in
          marked_to new trail l falsified (replaced l falsified ∙ or_right _ _ f.0)
    ])
  where
    not_both : is_set trail (negated p) ≡ true → ⊥
    not_both h = negated_other p (distinct_var trail d (negated p) p h there (lit_var-negated p))

-- a cut goes by its members
pub CutState-same : (clauses : List (List ℕ)) (front rest later cut next hints : List ℕ) → ((l : ℕ) → is_set next l ≡ is_set cut l)
    → CutState clauses front rest later cut hints → CutState clauses front rest later next hints
CutState-same clauses front rest later cut next hints same s = record {
  falsified = λ l h. s.falsified l (sym (same l) ∙ h);
  leads = λ set f apart. s.leads set (λ l h. f l (same l ∙ h)) apart;
}

-- the marked literals are those of the false clause
pub CutState-marked : (clauses : List (List ℕ)) (trail : List ℕ) (conflict : ℕ) (clause hints : List ℕ) (old m : Marked)
    → IsFalseAt clauses trail conflict → slice_get clauses conflict ≡ Some clause → hints ≡ (conflict + 1) ∷ []
    → ((v : ℕ) → is_marked old v ≡ false) → AreMarked trail clause old m → CutState clauses trail [] [] (marked_lits m trail) hints
CutState-marked clauses trail conflict clause hints old m f at hints_is none marked =
    CutState-same clauses trail [] [] clause (marked_lits m trail) hints same (CutState-start clauses trail conflict clause hints f at hints_is)
  where
    falsified : FalseBy trail clause
    falsified =
        let F : List ℕ → Type 0 = FalseBy trail in
        subst F (some_same f.0 clause (sym f.1 ∙ at)) (FalseBy-from_false trail f.0 f.2)

    same : (l : ℕ) → is_set (marked_lits m trail) l ≡ is_set clause l
    same l = same_Bool _ _
        (λ h.
        let w = marked_from m trail l h in
        sym (ap (λ b. b || is_set clause l) (none (lit_var l))) ∙ (sym (marked l w.0) ∙ w.1))
        (λ h. marked_to m trail l (falsified l h) (marked l (falsified l h) ∙ or_right _ _ h))

replaced_at : (cut reason hints more : List ℕ) (p place : ℕ) → is_set cut (negated p) ≡ true → more ≡ hints ++ (place + 1) ∷ []
    → ResolvedAt cut hints p place reason (resolvent cut p reason) more
replaced_at cut reason hints more p place h e = rw h (refl, e)

skipped_at : (cut reason hints : List ℕ) (p place : ℕ) → is_set cut (negated p) ≡ false → ResolvedAt cut hints p place reason cut hints
skipped_at cut reason hints p place h = rw h (refl, refl)

-- whether the complement of a set literal is marked is the mark of its variable
complement_marked : (m : Marked) (trail : List ℕ) (p : ℕ) → is_set trail p ≡ true
    → is_set (marked_lits m trail) (negated p) ≡ is_marked m (lit_var p)
complement_marked m trail p there = same_Bool _ _
    (λ h. ap (is_marked m) (sym (lit_var-negated p)) ∙ (marked_from m trail (negated p) h).1)
    (λ h. marked_to m trail (negated p) (ap (is_set trail) (negated-negated p) ∙ there) (ap (is_marked m) (lit_var-negated p) ∙ h))

-- the literal at a place is set
pub member_at : (trail : List ℕ) (at p : ℕ) → at < length trail → p ≡ get_or trail at 0 → is_set trail p ≡ true
member_at trail at p h e = is_set-take (at + 1) trail p (ap (is_set (take (at + 1) trail)) e ∙ at_front trail at (at + 1) h (omega arith))

reason_is : (clauses : List (List ℕ)) (front : List ℕ) (place u : ℕ) (unit : IsUnitAt clauses front place u) → clause_at clauses place ≡ unit.0
reason_is clauses front place u unit = get_or_from_slice_get clauses place unit.0 [] unit.1

-- a step of the walk back
pub walk_replaced : (clauses : List (List ℕ)) (trail : List ℕ) (at place : ℕ) (old new : Marked) (hints more : List ℕ)
    → IsDistinct eqb (map lit_var trail) → at < length trail → IsUnitAt clauses (take at trail) place (get_or trail at 0)
    → is_marked old (lit_var (get_or trail at 0)) ≡ true → AreReplaced trail (get_or trail at 0) (clause_at clauses place) old new
    → more ≡ hints ++ (place + 1) ∷ [] → CutState clauses (take (at + 1) trail) [] (drop (at + 1) trail) (marked_lits old trail) hints
    → CutState clauses (take at trail) [] (drop at trail) (marked_lits new trail) more
walk_replaced clauses trail at place old new hints more d h unit on replaced more_is s =
    let p = get_or trail at 0 in
    let there = member_at trail at p h refl in
    let R : List ℕ → Type 0 = λ c. AreReplaced trail p c old new in
    CutState-same clauses (take at trail) [] (drop at trail) (resolvent (marked_lits old trail) p unit.0) (marked_lits new trail) more
    (resolved_marks trail (take at trail) unit.0 old new p d there (λ l k. is_set-take at trail l k) unit.2
    (subst R (reason_is clauses (take at trail) place p unit) replaced))
    (walk_step clauses trail at (marked_lits old trail) (resolvent (marked_lits old trail) p unit.0) hints more unit.0 p place d h refl unit unit.1
    (replaced_at (marked_lits old trail) unit.0 hints more p place (complement_marked old trail p there ∙ on) more_is) s)

pub walk_skipped : (clauses : List (List ℕ)) (trail : List ℕ) (at : ℕ) (m : Marked) (hints : List ℕ)
    → IsDistinct eqb (map lit_var trail) → at < length trail → (place : ℕ) → IsUnitAt clauses (take at trail) place (get_or trail at 0)
    → is_marked m (lit_var (get_or trail at 0)) ≡ false → CutState clauses (take (at + 1) trail) [] (drop (at + 1) trail) (marked_lits m trail) hints
    → CutState clauses (take at trail) [] (drop at trail) (marked_lits m trail) hints
walk_skipped clauses trail at m hints d h place unit off s =
    walk_step clauses trail at (marked_lits m trail) (marked_lits m trail) hints hints unit.0 (get_or trail at 0) place d h refl unit unit.1
    (skipped_at (marked_lits m trail) unit.0 hints (get_or trail at 0) place
    (complement_marked m trail (get_or trail at 0) (member_at trail at (get_or trail at 0) h refl) ∙ off)) s

-- a step below
pub below_replaced : (clauses : List (List ℕ)) (trail : List ℕ) (end at place : ℕ) (cut first : List ℕ) (old new : Marked) (hints more : List ℕ)
    → IsDistinct eqb (map lit_var trail) → at < end → end ≤ length trail → IsUnitAt clauses (take at trail) place (get_or trail at 0)
    → is_marked old (lit_var (get_or trail at 0)) ≡ true → AreReplaced trail (get_or trail at 0) (clause_at clauses place) old new
    → more ≡ hints ++ (place + 1) ∷ [] → BelowState clauses trail end (at + 1) cut first (marked_lits old trail) hints
    → BelowState clauses trail end at cut first (marked_lits new trail) more
below_replaced clauses trail end at place cut first old new hints more d lt within unit on replaced more_is b =
    let h : at < length trail = omega arith in
    let p = get_or trail at 0 in
    let there = member_at trail at p h refl in
    let R : List ℕ → Type 0 = λ c. AreReplaced trail p c old new in
    let same = resolved_marks trail (take at trail) unit.0 old new p d there (λ l k. is_set-take at trail l k) unit.2
    (subst R (reason_is clauses (take at trail) place p unit) replaced) in
    let next = BelowState-step clauses trail end at cut first (marked_lits old trail) hints (resolvent (marked_lits old trail) p unit.0) more unit.0 p place
    d lt within refl unit unit.1
    (replaced_at (marked_lits old trail) unit.0 hints more p place (complement_marked old trail p there ∙ on) more_is) b in
    record {
      keeps = λ u k f. same u ∙ next.keeps u k f;
      state = λ rest later o s. CutState-same clauses (take at trail) rest (drop at (take end trail) ++ later)
          (resolvent (marked_lits old trail) p unit.0) (marked_lits new trail) more same (next.state rest later o s);
    }

pub below_skipped : (clauses : List (List ℕ)) (trail : List ℕ) (end at : ℕ) (cut first : List ℕ) (m : Marked) (hints : List ℕ)
    → IsDistinct eqb (map lit_var trail) → at < end → end ≤ length trail → (place : ℕ) → IsUnitAt clauses (take at trail) place (get_or trail at 0)
    → is_marked m (lit_var (get_or trail at 0)) ≡ false → BelowState clauses trail end (at + 1) cut first (marked_lits m trail) hints
    → BelowState clauses trail end at cut first (marked_lits m trail) hints
below_skipped clauses trail end at cut first m hints d lt within place unit off b =
    let h : at < length trail = omega arith in
    BelowState-step clauses trail end at cut first (marked_lits m trail) hints (marked_lits m trail) hints unit.0 (get_or trail at 0) place
    d lt within refl unit unit.1
    (skipped_at (marked_lits m trail) unit.0 hints (get_or trail at 0) place
    (complement_marked m trail (get_or trail at 0) (member_at trail at (get_or trail at 0) h refl) ∙ off)) b

-- where nothing below is marked any more, the rest needs no look
pub below_rest : (clauses : List (List ℕ)) (trail : List ℕ) (end at : ℕ) (cut first : List ℕ) (m : Marked) (hints : List ℕ) → at ≤ end
    → marked_count m (take end trail) ≡ 0 → BelowState clauses trail end at cut first (marked_lits m trail) hints
    → ResolvedBelow clauses trail end cut first (marked_lits m trail) hints
below_rest clauses trail end at cut first m hints le none b = record {
  keeps = b.keeps;
  state = λ rest later o s.
      let now = b.state rest later o s in
      record {
        falsified = λ l h. elim (in_either (take at trail) rest (negated l) (now.falsified l h)) [
          | inl t ↦ absurd (both_ways _ (count_zero m (take end trail) (negated l) none (is_set-take_more at end trail le (negated l) t))
              (ap (is_marked m) (lit_var-negated l) ∙ (marked_from m trail l h).1))
          | inr t ↦ t
        ];
        leads = λ set f apart. now.leads set f (λ q h. apart q (elim (in_either (drop at (take end trail)) later q h) [
          | inl t ↦ in_left (take end trail) later q (is_set-drop at (take end trail) q t)
          | inr t ↦ in_right (take end trail) later q t
        ]));
      };
}

-- where one literal above is left, it is the unit
pub unit_counted : (clauses : List (List ℕ)) (trail : List ℕ) (start at : ℕ) (m : Marked) (hints : List ℕ) → start ≤ at → at < length trail
    → marked_count m (drop start trail) ≡ 1 → is_marked m (lit_var (get_or trail at 0)) ≡ true
    → CutState clauses (take (at + 1) trail) [] (drop (at + 1) trail) (marked_lits m trail) hints
    → IsUnitCut clauses trail start at (marked_lits m trail) hints
unit_counted clauses trail start at m hints from within one on s = record {
  from = from;
  within = within;
  state = s;
  others = λ l h ne.
      let w = marked_from m trail l h in
      elim (in_either (take start trail) (drop start trail) (negated l) (ap (λ xs. is_set xs (negated l)) (take-append-drop start trail) ∙ w.0)) [
        | inl t ↦ t
        | inr t ↦ absurd (ne (sym (negated-negated l) ∙ ap negated (count_one m (drop start trail) (negated l) (get_or trail at 0) one t
            (ap (is_marked m) (lit_var-negated l) ∙ w.1) (at_back trail at start within from) on)))
      ];
}

-- at the decision it is the only one that is left
pub unit_decided : (clauses : List (List ℕ)) (trail : List ℕ) (start at : ℕ) (m : Marked) (hints : List ℕ) → start ≡ at → at < length trail
    → CutState clauses (take (at + 1) trail) [] (drop (at + 1) trail) (marked_lits m trail) hints
    → IsUnitCut clauses trail start at (marked_lits m trail) hints
unit_decided clauses trail start at m hints e within s =
    let P : ℕ → Type 0 = λ n. OthersFalse (take n trail) (marked_lits m trail) (negated (get_or trail at 0)) in
    record {
      from = omega arith;
      within = within;
      state = s;
      others = subst P (sym e) (OthersFalse-at_decision trail (marked_lits m trail) at within (whole s));
    }
  where
    whole : CutState clauses (take (at + 1) trail) [] (drop (at + 1) trail) (marked_lits m trail) hints → FalseBy (take (at + 1) trail) (marked_lits m trail)
    whole s l h = elim (in_either (take (at + 1) trail) [] (negated l) (s.falsified l h)) [
      | inl t ↦ t
      | inr t ↦ absurd (false≢true (sym (is_set-nil (negated l)) ∙ t))
    ]

-- the literals between and the unit are the asserting cut
pub IsAsserting-gathered : (clauses : List (List ℕ)) (trail : List ℕ) (base start at u : ℕ) (m : Marked) (some lits hints : List ℕ)
    → AreBetween trail base start m some → u ≡ negated (get_or trail at 0) → lits ≡ some ++ u ∷ []
    → IsAsserting clauses trail base start at (marked_lits m trail) hints → IsAsserting clauses trail base start at lits hints
IsAsserting-gathered clauses trail base start at u m some lits hints between u_is lits_is a = record {
  low = a.low;
  from = a.from;
  within = a.within;
  falsified = λ l h. a.falsified l (sym (same l) ∙ h);
  inside = same (negated (get_or trail at 0)) ∙ a.inside;
  follows = λ c members. a.follows c (λ l. members l ∙ same l);
}
  where
    inside : List ℕ
    inside = drop base (take start trail)

    same : (l : ℕ) → is_set lits l ≡ is_set (marked_lits m trail) l
    same l = ap (λ xs. is_set xs l) lits_is ∙ (is_set-push some u l ∙ same_Bool _ _
        (λ h. elim (or_cases (is_set some l) (eqb u l) h) [
          | inl t ↦
              let b = and_parts (is_set inside (negated l)) (is_marked m (lit_var l)) (sym (between l) ∙ t) in
              marked_to m trail l (is_set-take start trail (negated l) (drop_take base start trail (negated l) b.0).1) b.1
          | inr t ↦ ap (is_set (marked_lits m trail)) (sym (eqb-true u l t) ∙ u_is) ∙ a.inside
        ])
        (λ h.
        let w = marked_from m trail l h in
        elim (in_either inside (get_or trail at 0 ∷ []) (negated l) (a.falsified l h)) [
          | inl t ↦ or_left _ _ (between l ∙ and_from _ _ t w.1)
          | inr t ↦ or_right _ _ (eq-eqb u l (u_is ∙ (ap negated (only (get_or trail at 0) (negated l) t) ∙ negated-negated l)))
        ]))
