-- A literal that the others of an asserting clause cover is needless.
use Rattle.std.proofs.Common.{◌≡◌, ℕ, ◌+◌, ◌<◌, true, false, ◌&&◌, ◌||◌, not, eqb, Some, List, [], ◌∷◌, ◌++◌, map, get_or, take, drop, reverse}
use Rattle.std.proofs.Common.{slice_get, refl, sym, ap, ◌∙◌, subst, inl, inr}
use Rattle.std.specs.List.{IsDistinct, All}
use Rattle.std.proofs.lemmas.Bool.{cases_eq, or_cases, or_left, or_right, and_parts, and_from, and_right}
use Rattle.std.proofs.lemmas.Bool.{eqb-true, eqb-false, eq-eqb, ne_eqb, both_ways, false_from_ne_true, not_from_false, not_from_true}
use Rattle.std.proofs.lemmas.List.{map-append, reverse-append}
use Rattle.proof_log.specs.Literals.{lit_var, negated}
use Rattle.proof_log.specs.Clauses.{is_set, IsNormal}
use Rattle.proof_log.specs.Derivations.{LeadsToConflict}
use Rattle.proof_log.proofs.LiteralLemmas.{negated-negated, negated_other, lit_var-negated}
use Rattle.proof_log.proofs.Members.{is_set-push, is_set-take, All-from_members, member_from_All, map_mem, mem_map, not_true_false, distinct_var, normal_distinct}
use Rattle.sat_solver.specs.Cuts.{IsAsserting, IsCovered, KeepsAsserting}
use Rattle.sat_solver.specs.Markings.{Marked, is_marked, marked_lits, AreBetween, AreFewer}
use Rattle.sat_solver.proofs.OpenClauses.{open_only}
use Rattle.sat_solver.proofs.Trailing.{parts_apart, at_back}
use Rattle.sat_solver.proofs.Cutting.{named_place}
use Rattle.sat_solver.proofs.AtConflict.{asserting_false, drop_take}
use Rattle.sat_solver.proofs.Marking.{marked_from, marked_to, same_Bool}

-- a literal that a clause covers is resolved away
pub IsAsserting-covered : (clauses : List (List ℕ)) (trail : List ℕ) (base start at : ℕ) (cut next hints clause : List ℕ) (p reason : ℕ)
    → IsDistinct eqb (map lit_var trail) → is_set (take start trail) p ≡ true → slice_get clauses reason ≡ Some clause → IsNormal clause
    → IsCovered cut clause p → is_set cut (negated p) ≡ true → ((l : ℕ) → is_set next l ≡ (is_set cut l && not (eqb (negated p) l)))
    → IsAsserting clauses trail base start at cut hints → IsAsserting clauses trail base start at next ((reason + 1) ∷ hints)
IsAsserting-covered clauses trail base start at cut next hints clause p reason d early named normal covered inside without a = record {
  low = a.low;
  from = a.from;
  within = a.within;
  falsified = λ l h. a.falsified l (in_cut l h);
  inside = stays (negated (get_or trail at 0)) a.inside (λ e. parts_apart start trail d p (get_or trail at 0) early
      (at_back trail at start a.within a.from) (sym (lit_var-negated p) ∙ (ap lit_var e ∙ lit_var-negated (get_or trail at 0))));
  follows = λ c same. (
    clause,
    named_place clauses reason clause named,
    inr (
      p,
      (
        open_only (map negated c) clause p (normal_distinct clause normal) covered.has
            (λ q m ne. map_mem c q (same q ∙ stays q (covered.others q m ne) (λ e. ne (distinct_var clause (normal_distinct clause normal) q p m covered.has
            (sym (ap lit_var e) ∙ lit_var-negated p)))))
            (false_from_ne_true _ (λ y. no_p (in_cut p (sym (same p) ∙ (ap (is_set c) (sym (negated-negated p)) ∙ mem_map c (negated p) y))))),
        false_from_ne_true _ (λ y. both_ways _ (gone) (sym (same (negated p)) ∙ mem_map c p y)),
      ),
      subst (leads_from) (sym (pushed c)) (a.follows (c ++ negated p ∷ []) (members c same)),
    ),
  );
}
  where
    leads_from : List ℕ → Type 0
    leads_from set = LeadsToConflict clauses set hints

    in_cut : (l : ℕ) → is_set next l ≡ true → is_set cut l ≡ true
    in_cut l h = (and_parts (is_set cut l) (not (eqb (negated p) l)) (sym (without l) ∙ h)).0

    stays : (l : ℕ) → is_set cut l ≡ true → (negated p ≡ l → ⊥) → is_set next l ≡ true
    stays l h ne = without l ∙ and_from _ _ h (not_from_false _ (ne_eqb (negated p) l ne))

    gone : is_set next (negated p) ≡ false
    gone = without (negated p) ∙ and_right _ _ (not_from_true _ (eq-eqb (negated p) (negated p) refl))

    no_p : is_set cut p ≡ true → ⊥
    no_p h = negated_other p (distinct_var trail d (negated p) p (asserting_false clauses trail base start at cut hints a p h)
        (is_set-take start trail p early) (lit_var-negated p))

    pushed : (c : List ℕ) → map negated c ++ p ∷ [] ≡ map negated (c ++ negated p ∷ [])
    pushed c = ap (λ q. map negated c ++ q ∷ []) (sym (negated-negated p)) ∙ sym (map-append negated c (negated p ∷ []))

    members : (c : List ℕ) → ((l : ℕ) → is_set c l ≡ is_set next l) → (l : ℕ) → is_set (c ++ negated p ∷ []) l ≡ is_set cut l
    members c same l = is_set-push c (negated p) l ∙ same_Bool _ _
        (λ h. elim (or_cases (is_set c l) (eqb (negated p) l) h) [
          | inl t ↦ in_cut l (sym (same l) ∙ t)
          | inr t ↦ ap (is_set cut) (sym (eqb-true (negated p) l t)) ∙ inside
        ])
        (λ h. elim (cases_eq (negated p) l) [
          | inl e ↦ or_right _ _ (eq-eqb (negated p) l e)
          | inr ne ↦ or_left _ _ (same l ∙ stays l h ne)
        ])

-- the marked literals without the one whose mark is taken off
pub marked_without : (trail : List ℕ) (old new : Marked) (p : ℕ) → IsDistinct eqb (map lit_var trail) → is_set trail p ≡ true
    → ((v : ℕ) → is_marked new v ≡ (is_marked old v && not (eqb (lit_var p) v))) → (l : ℕ)
    → is_set (marked_lits new trail) l ≡ (is_set (marked_lits old trail) l && not (eqb (negated p) l))
marked_without trail old new p d there off l = same_Bool _ _
    (λ h.
    let w = marked_from new trail l h in
    let b = and_parts (is_marked old (lit_var l)) (not (eqb (lit_var p) (lit_var l))) (sym (off (lit_var l)) ∙ w.1) in
    and_from _ _ (marked_to old trail l w.0 b.0)
    (not_from_false _ (ne_eqb (negated p) l (λ e. eqb-false _ _ (not_true_false _ b.1) (sym (lit_var-negated p) ∙ ap lit_var e)))))
    (λ h.
    let b = and_parts (is_set (marked_lits old trail) l) (not (eqb (negated p) l)) h in
    let w = marked_from old trail l b.0 in
    marked_to new trail l w.0 (off (lit_var l) ∙ and_from _ _ w.1 (not_from_false _ (ne_eqb (lit_var p) (lit_var l) (λ e.
    eqb-false _ _ (not_true_false _ b.1) (ap negated (distinct_var trail d p (negated l) there w.0 (e ∙ sym (lit_var-negated l))) ∙ negated-negated l))))))

-- a cut of marks keeps making an asserting clause where a covered mark is taken off
pub KeepsAsserting-covered : (clauses : List (List ℕ)) (trail : List ℕ) (base start : ℕ) (old new : Marked) (hints more clause : List ℕ)
    (p reason : ℕ) → IsDistinct eqb (map lit_var trail) → is_set (take start trail) p ≡ true → slice_get clauses reason ≡ Some clause
    → IsNormal clause → IsCovered (marked_lits old trail) clause p → is_marked old (lit_var p) ≡ true
    → ((v : ℕ) → is_marked new v ≡ (is_marked old v && not (eqb (lit_var p) v))) → more ≡ hints ++ (reason + 1) ∷ []
    → KeepsAsserting clauses trail base start (marked_lits old trail) hints (marked_lits new trail) more
KeepsAsserting-covered clauses trail base start old new hints more clause p reason d early named normal covered on off more_is at a =
    let there = is_set-take start trail p early in
    let P : List ℕ → Type 0 = IsAsserting clauses trail base start at (marked_lits new trail) in
    subst P (sym (ap reverse more_is ∙ reverse-append hints ((reason + 1) ∷ [])))
    (IsAsserting-covered clauses trail base start at (marked_lits old trail) (marked_lits new trail) (reverse hints) clause p reason d early named normal
    covered
    (marked_to old trail (negated p) (ap (is_set trail) (negated-negated p) ∙ there) (ap (is_marked old) (lit_var-negated p) ∙ on))
    (marked_without trail old new p d there off) a)

-- the literals between that are still marked
pub AreBetween-fewer : (trail : List ℕ) (base start : ℕ) (old new : Marked) (lits kept : List ℕ) → AreFewer old new
    → AreBetween trail base start old lits → ((l : ℕ) → is_set kept l ≡ (is_set lits l && is_set (marked_lits new trail) l))
    → AreBetween trail base start new kept
AreBetween-fewer trail base start old new lits kept fewer between keeps l = keeps l ∙ same_Bool _ _
    (λ h.
    let b = and_parts (is_set lits l) (is_set (marked_lits new trail) l) h in
    and_from _ _ (and_parts (is_set (drop base (take start trail)) (negated l)) (is_marked old (lit_var l)) (sym (between l) ∙ b.0)).0
    (marked_from new trail l b.1).1)
    (λ h.
    let b = and_parts (is_set (drop base (take start trail)) (negated l)) (is_marked new (lit_var l)) h in
    and_from _ _ (between l ∙ and_from _ _ b.0 (fewer (lit_var l) b.1))
    (marked_to new trail l (is_set-take start trail (negated l) (drop_take base start trail (negated l) b.0).1) b.1))

-- a literal that is not false is in no cut of marks
pub marked_absent : (trail : List ℕ) (m : Marked) (l : ℕ) → is_set trail (negated l) ≡ false → false ≡ is_set (marked_lits m trail) l
marked_absent trail m l h = sym (false_from_ne_true _ (λ t. both_ways _ h (marked_from m trail l t).0))

-- a false one is where its variable is marked
pub marked_there : (trail : List ℕ) (m : Marked) (l : ℕ) → is_set trail (negated l) ≡ true → is_marked m (lit_var l) ≡ is_set (marked_lits m trail) l
marked_there trail m l h = same_Bool _ _ (marked_to m trail l h) (λ t. (marked_from m trail l t).1)

-- what is below a number, of all the numbers and the last one
pub all_popped : (start : ℕ) (xs ys : List ℕ) (x : ℕ) → xs ≡ ys ++ x ∷ [] → All (λ n. n < start) xs → All (λ n. n < start) ys × (x < start)
all_popped start xs ys x e all = (
  All-from_members P ys (λ l h. member_from_All P xs l all (ap (λ zs. is_set zs l) e ∙ (is_set-push ys x l ∙ or_left _ _ h))),
  member_from_All P xs x all (ap (λ zs. is_set zs x) e ∙ (is_set-push ys x x ∙ or_right _ _ (eq-eqb x x refl))),
)
  where
    P : ℕ → Type 0
    P n = n < start

-- one more literal of the clause is in the cut
pub others_more : (cut clause more : List ℕ) (p x : ℕ) → more ≡ clause ++ x ∷ [] → ((x ≡ p → ⊥) → is_set cut x ≡ true)
    → ((q : ℕ) → is_set clause q ≡ true → (q ≡ p → ⊥) → is_set cut q ≡ true) → (q : ℕ) → is_set more q ≡ true → (q ≡ p → ⊥) → is_set cut q ≡ true
others_more cut clause more p x e here others q h ne =
    elim (or_cases (is_set clause q) (eqb x q) (sym (is_set-push clause x q) ∙ (ap (λ zs. is_set zs q) (sym e) ∙ h))) [
      | inl t ↦ others q t ne
      | inr t ↦
          let same = eqb-true x q t in
          ap (is_set cut) (sym same) ∙ here (λ k. ne (sym same ∙ k))
    ]

-- one more literal is kept, or not
pub kept_more : (cut lits more kept now : List ℕ) (x : ℕ) → more ≡ lits ++ x ∷ [] → is_set cut x ≡ true → now ≡ kept ++ x ∷ []
    → ((q : ℕ) → is_set kept q ≡ (is_set lits q && is_set cut q)) → (q : ℕ) → is_set now q ≡ (is_set more q && is_set cut q)
kept_more cut lits more kept now x e there now_is keeps q =
    ap (λ zs. is_set zs q) now_is ∙ (is_set-push kept x q ∙ (same_Bool _ _
    (λ h. elim (or_cases (is_set kept q) (eqb x q) h) [
      | inl t ↦ let b = and_parts (is_set lits q) (is_set cut q) (sym (keeps q) ∙ t) in and_from _ _ (in_more (or_left _ _ b.0)) b.1
      | inr t ↦ and_from _ _ (in_more (or_right _ _ t)) (ap (is_set cut) (sym (eqb-true x q t)) ∙ there)
    ])
    (λ h.
    let b = and_parts (is_set more q) (is_set cut q) h in
    elim (or_cases (is_set lits q) (eqb x q) (sym (is_set-push lits x q) ∙ (ap (λ zs. is_set zs q) (sym e) ∙ b.0))) [
      | inl t ↦ or_left _ _ (keeps q ∙ and_from _ _ t b.1)
      | inr t ↦ or_right _ _ t
    ])))
  where
    in_more : (is_set lits q || eqb x q) ≡ true → is_set more q ≡ true
    in_more h = ap (λ zs. is_set zs q) e ∙ (is_set-push lits x q ∙ h)

pub kept_same : (cut lits more kept : List ℕ) (x : ℕ) → more ≡ lits ++ x ∷ [] → is_set cut x ≡ false
    → ((q : ℕ) → is_set kept q ≡ (is_set lits q && is_set cut q)) → (q : ℕ) → is_set kept q ≡ (is_set more q && is_set cut q)
kept_same cut lits more kept x e absent keeps q = keeps q ∙ same_Bool _ _
    (λ h.
    let b = and_parts (is_set lits q) (is_set cut q) h in
    and_from _ _ (ap (λ zs. is_set zs q) e ∙ (is_set-push lits x q ∙ or_left _ _ b.0)) b.1)
    (λ h.
    let b = and_parts (is_set more q) (is_set cut q) h in
    elim (or_cases (is_set lits q) (eqb x q) (sym (is_set-push lits x q) ∙ (ap (λ zs. is_set zs q) (sym e) ∙ b.0))) [
      | inl t ↦ and_from _ _ t b.1
      | inr t ↦ absurd (both_ways _ absent (ap (is_set cut) (eqb-true x q t) ∙ b.1))
    ])
