-- An assignment stays one where an unset literal is set.
use Rattle.std.proofs.Common.{◌≡◌, ℕ, ◌+◌, ◌*◌, ◌^◌, ◌<◌, ◌≤◌, Bool, true, false, ◌||◌, eqb, List, [], ◌∷◌, ◌++◌, map, length, get_or, set, take}
use Rattle.std.proofs.Common.{replicate, refl, sym, ap, ◌∙◌, subst, inl, inr, arith}
use Rattle.std.specs.List.{list_any, IsDistinct, AllByRecursion}
use Rattle.std.proofs.lemmas.Bool.{false≢true, or_cases, or_left, or_right, eqb-true, eqb-false, eq-eqb, ne_eqb, cases_eq}
use Rattle.std.proofs.lemmas.List.{take_all, take_more, length-set, get_or-set_same, get_or-set_other, get_or-replicate, length-replicate, length-map}
use Rattle.std.proofs.lemmas.List.{length-append, map-append}
use Rattle.std.proofs.lemmas.Map.Steps.{length-le_from_distinct_below}
use Rattle.proof_log.specs.Literals.{lit_var, negated, InVars}
use Rattle.proof_log.specs.Clauses.{is_set}
use Rattle.proof_log.specs.Assignments.{IsAssignment}
use Rattle.proof_log.proofs.LiteralLemmas.{same_var}
use Rattle.proof_log.proofs.Members.{is_set-push, is_set-nil, is_set-cons, is_set-at, or_both_false}

pub IsAssignment-new : (vars room : ℕ) (marks : List Bool) → vars < 2 ^ 31 → marks ≡ replicate (2 * vars + 2) false → vars + 1 ≤ room
    → IsAssignment vars marks [] room
unfolding IsDistinct
IsAssignment-new vars room marks few e roomy = record {
  few = few;
  long = ap length e ∙ length-replicate (2 * vars + 2) false;
  marked = λ l h. ap (λ m. get_or m l false) e ∙ get_or-replicate (2 * vars + 2) l false false h ∙ sym (is_set-nil l);
  in_vars = λ l h. absurd (false≢true (sym (is_set-nil l) ∙ h));
  distinct = tt;
  roomy = roomy;
}

all_false-push : (x y : ℕ) (xs : List ℕ) → AllByRecursion (λ z. eqb x z ≡ false) xs → eqb x y ≡ false → AllByRecursion (λ z. eqb x z ≡ false) (xs ++ y ∷ [])
all_false-push x y [] all e = (e, tt)
all_false-push x y (z ∷ zs) all e = (all.0, all_false-push x y zs all.1 e)

-- one more number that differs from each
pub IsDistinct-push : (xs : List ℕ) (y : ℕ) → IsDistinct eqb xs → list_any (λ x. eqb x y) xs ≡ false → IsDistinct eqb (xs ++ y ∷ [])
unfolding IsDistinct
IsDistinct-push [] y d none = (tt, tt)
IsDistinct-push (x ∷ xs) y d none =
    let parts = or_both_false _ _ none in
    (all_false-push x y xs d.0 parts.0, IsDistinct-push xs y d.1 parts.1)

-- no literal of the variable is set where neither of the two is
pub no_var : (lits : List ℕ) (l : ℕ) → is_set lits l ≡ false → is_set lits (negated l) ≡ false → list_any (λ x. eqb x (lit_var l)) (map lit_var lits) ≡ false
no_var [] l t f = refl
no_var (x ∷ xs) l t f =
    let p = or_both_false _ _ (sym (is_set-cons x xs l) ∙ t) in
    let n = or_both_false _ _ (sym (is_set-cons x xs (negated l)) ∙ f) in
    let other : eqb (lit_var x) (lit_var l) ≡ false = ne_eqb _ _ (λ e.
    elim (same_var x l e) [ inl same ↦ eqb-false _ _ p.0 same | inr same ↦ eqb-false _ _ n.0 same ]) in
    ap (λ b. b || list_any (λ x. eqb x (lit_var l)) (map lit_var xs)) other ∙ no_var xs l p.1 n.1

-- the variables of the set literals are at most vars
pub var_below : (vars : ℕ) (lits : List ℕ) → ((l : ℕ) → is_set lits l ≡ true → InVars vars l) → (q : ℕ) → list_any (eqb q) (map lit_var lits) ≡ true
    → q < vars + 1
var_below vars [] all q h = absurd (false≢true h)
var_below vars (x ∷ xs) all q h =
    elim (or_cases (eqb q (lit_var x)) (list_any (eqb q) (map lit_var xs)) h) [
      | inl e ↦ let same = eqb-true q (lit_var x) e in let b = all x (is_set-cons x xs x ∙ or_left _ _ (eq-eqb x x refl)) in omega arith
      | inr r ↦ var_below vars xs (λ l s. all l (is_set-cons x xs l ∙ or_right _ _ s)) q r
    ]

pub in_vars-push : (vars : ℕ) (lits : List ℕ) (u : ℕ) → ((l : ℕ) → is_set lits l ≡ true → InVars vars l) → InVars vars u → (l : ℕ)
    → is_set (lits ++ u ∷ []) l ≡ true → InVars vars l
in_vars-push vars lits u all here l h =
    elim (or_cases (is_set lits l) (eqb u l) (sym (is_set-push lits u l) ∙ h)) [
      | inl s ↦ all l s
      | inr e ↦ let P : ℕ → Type 0 = InVars vars in subst P (eqb-true u l e) here
    ]

pub distinct-push : (lits : List ℕ) (u : ℕ) → IsDistinct eqb (map lit_var lits) → is_set lits u ≡ false → is_set lits (negated u) ≡ false
    → IsDistinct eqb (map lit_var (lits ++ u ∷ []))
distinct-push lits u d t f =
    let P : List ℕ → Type 0 = IsDistinct eqb in
    subst P (sym (map-append lit_var lits (u ∷ []))) (IsDistinct-push (map lit_var lits) (lit_var u) d (no_var lits u t f))

pub IsAssignment-set : (vars room : ℕ) (marks : List Bool) (lits : List ℕ) (u : ℕ) → IsAssignment vars marks lits room → InVars vars u
    → is_set lits u ≡ false → is_set lits (negated u) ≡ false → IsAssignment vars (set marks u true) (lits ++ u ∷ []) room
IsAssignment-set vars room marks lits u a here t f = record {
  few = a.few;
  long = length-set marks u true ∙ a.long;
  marked = λ l h. elim (cases_eq l u) [
    | inl e ↦ let P : ℕ → Type 0 = λ q. get_or (set marks u true) q false ≡ is_set (lits ++ u ∷ []) q in
        subst P (sym e) (get_or-set_same marks u true false (omega (arith, a.long)) ∙ sym (is_set-push lits u u ∙ or_right _ _ (eq-eqb u u refl)))
    | inr ne ↦ get_or-set_other marks u l true false ne ∙ a.marked l h
        ∙ sym (is_set-push lits u l ∙ ap (λ b. is_set lits l || b) (ne_eqb u l (λ e. ne (sym e))) ∙ or_nil (is_set lits l))
  ];
  in_vars = in_vars-push vars lits u a.in_vars here;
  distinct = distinct-push lits u a.distinct t f;
  roomy = a.roomy;
}
  where
    or_nil : (b : Bool) → (b || false) ≡ b
    or_nil true = refl
    or_nil false = refl

-- an unset literal leaves room for itself
pub room_left : (vars room : ℕ) (marks : List Bool) (lits : List ℕ) (u : ℕ) → IsAssignment vars marks lits room → InVars vars u
    → is_set lits u ≡ false → is_set lits (negated u) ≡ false → length lits < vars + 1
room_left vars room marks lits u a here t f =
    let most = length-le_from_distinct_below (map lit_var (lits ++ u ∷ [])) (vars + 1) (distinct-push lits u a.distinct t f)
    (var_below vars (lits ++ u ∷ []) (in_vars-push vars lits u a.in_vars here)) in
    omega (arith, most, length-map (lits ++ u ∷ []) lit_var, length-append lits (u ∷ []), a.roomy)

-- no more literals are set than there are variables
pub few_set : (vars room : ℕ) (marks : List Bool) (lits : List ℕ) → IsAssignment vars marks lits room → length lits ≤ vars + 1
few_set vars room marks lits a =
    let most = length-le_from_distinct_below (map lit_var lits) (vars + 1) a.distinct (var_below vars lits a.in_vars) in
    omega (arith, most, length-map lits lit_var)

-- the last literal is none of those before it
last_apart : (xs : List ℕ) (y : ℕ) → IsDistinct eqb (map lit_var (xs ++ y ∷ [])) → (is_set xs y ≡ false) × IsDistinct eqb (map lit_var xs)
unfolding IsDistinct is_set
last_apart [] y d = (refl, tt)
last_apart (x ∷ xs) y d =
    let rest = last_apart xs y d.1 in
    let differs = front_false (lit_var x) (lit_var y) (map lit_var xs) (let P : List ℕ → Type 0 = AllByRecursion (λ z. eqb (lit_var x) z ≡ false) in
    subst P (map-append lit_var xs (y ∷ [])) d.0) in
    (ap (λ b. b || is_set xs y) (ne_eqb x y (λ e. eqb-false _ _ differs.1 (ap lit_var e))) ∙ rest.0, (differs.0, rest.1))
  where
    front_false : (a b : ℕ) (zs : List ℕ) → AllByRecursion (λ z. eqb a z ≡ false) (zs ++ b ∷ []) → AllByRecursion (λ z. eqb a z ≡ false) zs × (eqb a b ≡ false)
    front_false a b [] all = (tt, all.0)
    front_false a b (z ∷ zs) all = let rest = front_false a b zs all.1 in ((all.0, rest.0), rest.1)

pub IsAssignment-pop : (vars room : ℕ) (marks : List Bool) (lits : List ℕ) (u : ℕ) → IsAssignment vars marks (lits ++ u ∷ []) room
    → IsAssignment vars (set marks u false) lits room
IsAssignment-pop vars room marks lits u a =
    let apart = last_apart lits u a.distinct in
    let u_in = a.in_vars u (is_set-push lits u u ∙ or_right _ _ (eq-eqb u u refl)) in
    record {
      few = a.few;
      long = length-set marks u false ∙ a.long;
      marked = λ l h. elim (cases_eq l u) [
        | inl e ↦ let P : ℕ → Type 0 = λ q. get_or (set marks u false) q false ≡ is_set lits q in
            subst P (sym e) (get_or-set_same marks u false false (omega (arith, a.long, u_in)) ∙ sym apart.0)
        | inr ne ↦ get_or-set_other marks u l false false ne ∙ a.marked l h ∙ is_set-push lits u l ∙ ap (λ b. is_set lits l || b)
            (ne_eqb u l (λ e. ne (sym e))) ∙ or_none (is_set lits l)
      ];
      in_vars = λ l h. a.in_vars l (is_set-push lits u l ∙ or_left _ _ h);
      distinct = apart.1;
      roomy = a.roomy;
    }
  where
    or_none : (b : Bool) → (b || false) ≡ b
    or_none true = refl
    or_none false = refl

last_split : (xs : List ℕ) (n : ℕ) → length xs ≡ n + 1 → xs ≡ take n xs ++ get_or xs n 0 ∷ []
last_split xs n h = sym (take_all (n + 1) xs (omega arith)) ∙ take_more xs n 0 (omega arith)

pub IsAssignment-unset : (vars room : ℕ) (marks : List Bool) (lits : List ℕ) (n l : ℕ) → IsAssignment vars marks lits room → length lits ≡ n + 1
    → l ≡ get_or lits n 0 → IsAssignment vars (set marks l false) (take n lits) room
IsAssignment-unset vars room marks lits n l a h e =
    let P : List ℕ → Type 0 = λ xs. IsAssignment vars marks xs room in
    let R : ℕ → Type 0 = λ q. IsAssignment vars (set marks q false) (take n lits) room in
    subst R (sym e) (IsAssignment-pop vars room marks (take n lits) (get_or lits n 0) (subst P (last_split lits n h) a))

pub mark_within : (vars room : ℕ) (marks : List Bool) (lits : List ℕ) (n l : ℕ) → IsAssignment vars marks lits room → n < length lits
    → l ≡ get_or lits n 0 → l < length marks
mark_within vars room marks lits n l a h e =
    let here : is_set lits (get_or lits n 0) ≡ true = is_set-at lits n h in
    let b = a.in_vars (get_or lits n 0) here in omega (arith, a.long, b)
