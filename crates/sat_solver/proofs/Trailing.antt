-- A trail's table of places, and where set literals stand.
use Rattle.std.proofs.Common.{◌≡◌, ℕ, zero, suc, ◌+◌, ◌<◌, ◌≤◌, Bool, true, false, ◌||◌, eqb, ltb, List, [], ◌∷◌, ◌++◌, map, length, get_or, set}
use Rattle.std.proofs.Common.{take, drop, refl, sym, ap, ◌∙◌, subst, inl, inr, ◌⊎◌, arith}
use Rattle.std.specs.List.{IsDistinct}
use Rattle.std.proofs.lemmas.Bool.{false≢true, cases_lt, or_cases, or_left, or_right, eqb-true, false_from_ne_true, both_ways, lt-ltb, ltb-true}
use Rattle.std.proofs.lemmas.List.{length-set, get_or-set_same, get_or-set_other, get_or_append_left, get_or_push, length_push, take-take}
use Rattle.std.proofs.lemmas.List.{get_or-take, take_more, drop_more}
use Rattle.std.proofs.lemmas.Option.{slice_get_within}
use Rattle.proof_log.specs.Literals.{lit_var, negated, InVars}
use Rattle.proof_log.specs.Clauses.{is_set}
use Rattle.proof_log.proofs.LiteralLemmas.{same_var}
use Rattle.proof_log.proofs.Members.{is_set-nil, is_set-cons, is_set-append, is_set-at, is_set_first, is_set-take, is_set-drop, other_var}
use Rattle.sat_solver.specs.Searches.{IsUnitAt}
use Rattle.sat_solver.specs.Trails.{IsTrail}

-- a literal of a list stands at some place
pub place_from_member : (xs : List ℕ) (l : ℕ) → is_set xs l ≡ true → (i : ℕ) × (i < length xs) × (get_or xs i 0 ≡ l)
place_from_member [] l h = absurd (false≢true (sym (is_set-nil l) ∙ h))
place_from_member (x ∷ xs) l h =
    elim (or_cases (eqb x l) (is_set xs l) (sym (is_set-cons x xs l) ∙ h)) [
      | inl e ↦ (0, omega arith, eqb-true x l e)
      | inr r ↦ let w = place_from_member xs l r in (suc w.0, omega (arith, w.1), w.2)
    ]

-- the table has its place
pub placed_at : (vars room : ℕ) (lits reasons places : List ℕ) (l : ℕ) → IsTrail vars lits reasons room places → is_set lits l ≡ true
    → (get_or places (lit_var l) 0 < length lits) × (get_or lits (get_or places (lit_var l) 0) 0 ≡ l)
placed_at vars room lits reasons places l t h =
    let w = place_from_member lits l h in
    let p : get_or places (lit_var l) 0 ≡ w.0 = ap (λ q. get_or places (lit_var q) 0) (sym w.2) ∙ t.placed w.0 w.1 in
    (omega (arith, w.1), ap (λ i. get_or lits i 0) p ∙ w.2)

pub IsTrail-set : (vars room : ℕ) (lits reasons places : List ℕ) (l r : ℕ) → IsTrail vars lits reasons room places → InVars vars l
    → is_set lits l ≡ false → is_set lits (negated l) ≡ false → IsTrail vars (lits ++ l ∷ []) (reasons ++ r ∷ []) room
    (set places (lit_var l) (length lits))
IsTrail-set vars room lits reasons places l r t here not_true not_false = record {
  paired = omega (arith, t.paired, length_push lits l, length_push reasons r);
  roomy = t.roomy;
  long = length-set places (lit_var l) (length lits) ∙ t.long;
  placed = λ i h. elim (cases_lt i (length lits)) [
    | inl lt ↦
        let same : get_or (lits ++ l ∷ []) i 0 ≡ get_or lits i 0 = get_or_append_left lits (l ∷ []) 0 i lt in
        ap (λ q. get_or (set places (lit_var l) (length lits)) (lit_var q) 0) same
        ∙ get_or-set_other places (lit_var l) (lit_var (get_or lits i 0)) (length lits) 0 (other i lt)
        ∙ t.placed i lt
    | inr ge ↦
        let e : i ≡ length lits = omega (arith, length_push lits l) in
        ap (λ j. get_or (set places (lit_var l) (length lits)) (lit_var (get_or (lits ++ l ∷ []) j 0)) 0) e
        ∙ ap (λ q. get_or (set places (lit_var l) (length lits)) (lit_var q) 0) (get_or_push lits l 0 (length lits) refl)
        ∙ get_or-set_same places (lit_var l) (length lits) 0 (omega (arith, t.long, here)) ∙ sym e
  ];
}
  where
    other : (i : ℕ) → i < length lits → lit_var (get_or lits i 0) ≡ lit_var l → ⊥
    other i lt e = elim (same_var (get_or lits i 0) l e) [
      | inl s ↦ both_ways _ not_true (ap (is_set lits) (sym s) ∙ is_set-at lits i lt)
      | inr s ↦ both_ways _ not_false (ap (is_set lits) (sym s) ∙ is_set-at lits i lt)
    ]

pub IsTrail-take : (vars room : ℕ) (lits reasons places : List ℕ) (n : ℕ) → IsTrail vars lits reasons room places → IsTrail vars (take n lits)
    (take n reasons) room places
IsTrail-take vars room lits reasons places n t = record {
  paired = both n lits reasons t.paired;
  roomy = t.roomy;
  long = t.long;
  placed = λ i h.
      let b = front_length n lits in
      let low : i < n = omega (arith, b.0) in
      ap (λ q. get_or places (lit_var q) 0) (get_or-take n lits i 0 low) ∙ t.placed i (omega (arith, b.1));
}
  where
    front_length : (n : ℕ) (xs : List ℕ) → (length (take n xs) ≤ n) × (length (take n xs) ≤ length xs)
    front_length zero xs = (omega arith, omega arith)
    front_length (suc n) [] = (omega arith, omega arith)
    front_length (suc n) (x ∷ xs) = let r = front_length n xs in (omega (arith, r.0), omega (arith, r.1))

    both : (n : ℕ) (xs ys : List ℕ) → length ys ≡ length xs → length (take n ys) ≡ length (take n xs)
    both zero xs ys h = refl
    both (suc n) [] [] h = refl
    both (suc n) [] (y ∷ ys) h = absurd (omega arith)
    both (suc n) (x ∷ xs) [] h = absurd (omega arith)
    both (suc n) (x ∷ xs) (y ∷ ys) h = omega (arith, both n xs ys (omega arith))

-- an earlier and a later literal are of two variables
pub parts_apart : (n : ℕ) (xs : List ℕ) → IsDistinct eqb (map lit_var xs) → (a b : ℕ) → is_set (take n xs) a ≡ true → is_set (drop n xs) b ≡ true
    → lit_var a ≡ lit_var b → ⊥
unfolding IsDistinct
parts_apart zero xs d a b ha hb e = false≢true (sym (is_set-nil a) ∙ ha)
parts_apart (suc n) [] d a b ha hb e = false≢true (sym (is_set-nil a) ∙ ha)
parts_apart (suc n) (x ∷ xs) d a b ha hb e =
    elim (or_cases (eqb x a) (is_set (take n xs) a) (sym (is_set-cons x (take n xs) a) ∙ ha)) [
      | inl s ↦ other_var x xs d.0 b (is_set-drop n xs b hb) (ap lit_var (eqb-true x a s) ∙ e)
      | inr r ↦ parts_apart n xs d.1 a b r hb e
    ]

-- what stands late stands after each earlier place
pub is_set-drop_less : (n m : ℕ) (xs : List ℕ) → n ≤ m → (p : ℕ) → is_set (drop m xs) p ≡ true → is_set (drop n xs) p ≡ true
is_set-drop_less zero m xs h p t = is_set-drop m xs p t
is_set-drop_less (suc n) zero xs h p t = absurd (omega arith)
is_set-drop_less (suc n) (suc m) [] h p t = t
is_set-drop_less (suc n) (suc m) (x ∷ xs) h p t = is_set-drop_less n m xs (omega arith) p t

-- what stands early stands before each later place
pub is_set-take_more : (n m : ℕ) (xs : List ℕ) → n ≤ m → (p : ℕ) → is_set (take n xs) p ≡ true → is_set (take m xs) p ≡ true
is_set-take_more n m xs h p t =
    let P : List ℕ → Type 0 = λ ys. is_set ys p ≡ true in
    is_set-take n (take m xs) p (subst P (sym (take-take n m xs h)) t)

pub front_unset : (xs : List ℕ) (n m q : ℕ) → n ≤ m → is_set (take m xs) q ≡ false → is_set (take n xs) q ≡ false
front_unset xs n m q h f = false_from_ne_true _ (λ t. both_ways _ f (is_set-take_more n m xs h q t))

-- the literal at a place is in the front that ends after it, and in the back that begins there
pub at_front : (xs : List ℕ) (i n : ℕ) → i < length xs → i < n → is_set (take n xs) (get_or xs i 0) ≡ true
at_front xs i n h lt =
    is_set-take_more (i + 1) n xs (omega arith) (get_or xs i 0)
    (ap (λ ys. is_set ys (get_or xs i 0)) (take_more xs i 0 h) ∙ is_set-append (take i xs) (get_or xs i 0 ∷ []) (get_or xs i 0)
    ∙ right (is_set (take i xs) (get_or xs i 0)) (is_set_first (get_or xs i 0) []))
  where
    right : (a : Bool) {b : Bool} → b ≡ true → (a || b) ≡ true
    right true e = refl
    right false e = e

pub at_back : (xs : List ℕ) (i n : ℕ) → i < length xs → n ≤ i → is_set (drop n xs) (get_or xs i 0) ≡ true
at_back xs i n h le =
    is_set-drop_less n i xs le (get_or xs i 0) (ap (λ ys. is_set ys (get_or xs i 0)) (drop_more xs i 0 h) ∙ is_set_first (get_or xs i 0) (drop (i + 1) xs))

-- so it is in no front that ends before it, nor is its complement
pub at_not_front : (xs : List ℕ) (i n l : ℕ) → IsDistinct eqb (map lit_var xs) → i < length xs → n ≤ i → lit_var l ≡ lit_var (get_or xs i 0)
    → is_set (take n xs) l ≡ false
at_not_front xs i n l d h le e = false_from_ne_true _ (λ t. parts_apart n xs d l (get_or xs i 0) t (at_back xs i n h le) e)

-- so the literal at a place is in exactly the fronts that end after it
pub place_front : (xs : List ℕ) (i n l : ℕ) → IsDistinct eqb (map lit_var xs) → i < length xs → get_or xs i 0 ≡ l → is_set (take n xs) l ≡ ltb i n
place_front xs i n l d h e =
    elim (cases_lt i n) [
      | inl lt ↦ ap (is_set (take n xs)) (sym e) ∙ at_front xs i n h lt ∙ sym (lt-ltb i n lt)
      | inr ge ↦ at_not_front xs i n l d h ge (ap lit_var (sym e)) ∙ sym (false_from_ne_true _ (λ t. let k = ltb-true i n t in absurd (omega arith)))
    ]

-- what is in two lists joined
pub in_left : (xs ys : List ℕ) (q : ℕ) → is_set xs q ≡ true → is_set (xs ++ ys) q ≡ true
in_left xs ys q h = is_set-append xs ys q ∙ or_left (is_set xs q) (is_set ys q) h

pub in_right : (xs ys : List ℕ) (q : ℕ) → is_set ys q ≡ true → is_set (xs ++ ys) q ≡ true
in_right xs ys q h = is_set-append xs ys q ∙ or_right (is_set xs q) (is_set ys q) h

pub in_either : (xs ys : List ℕ) (q : ℕ) → is_set (xs ++ ys) q ≡ true → (is_set xs q ≡ true) ⊎ (is_set ys q ≡ true)
in_either xs ys q h = or_cases (is_set xs q) (is_set ys q) (sym (is_set-append xs ys q) ∙ h)

-- a reason's place, as it is read
pub reason_within : (clauses : List (List ℕ)) (front reasons shown : List ℕ) (at u : ℕ) → shown ≡ reasons → IsUnitAt clauses front
    (get_or reasons at 0) u → get_or shown at 0 < length clauses
reason_within clauses front reasons shown at u e unit =
    let P : List ℕ → Type 0 = λ rs. get_or rs at 0 < length clauses in
    subst P (sym e) (slice_get_within clauses _ unit.0 unit.1)
