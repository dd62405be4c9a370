-- An array of variables and the table of their places.
use Rattle.std.proofs.Common.{◌≡◌, ℕ, zero, suc, ◌+◌, ◌<◌, ◌≤◌, Bool, true, false, ◌||◌, eqb, List, [], ◌∷◌, ◌++◌, length, get_or, set, take, refl}
use Rattle.std.proofs.Common.{sym, ap, ◌∙◌, inl, inr, arith}
use Rattle.std.specs.List.{IsDistinct, list_any}
use Rattle.std.proofs.lemmas.Bool.{false≢true, ne_eqb, cases_lt, cases_eq, or_cases, eqb-true, eq-eqb, both_ways, false_from_ne_true}
use Rattle.std.proofs.lemmas.List.{length-set, get_or-set_same, get_or-set_other, get_or_append_left, get_or_push, length_push, get_or_default, get_or-take}
use Rattle.std.proofs.lemmas.Map.Steps.{length-le_from_distinct_below}
use Rattle.std.proofs.lemmas.Map.Keys.{IsDistinct-from_apart}
use Rattle.proof_log.specs.Clauses.{is_set}
use Rattle.proof_log.proofs.Members.{is_set-nil, is_set-cons, is_set-at, is_set-push, is_set_later, or-false}
use Rattle.decision_heap.specs.Heaps.{Waiting, IsHeap, IsSame, IsTaken}

-- a member stands at some place
pub place_from_member : (xs : List ℕ) (v : ℕ) → is_set xs v ≡ true → (i : ℕ) × (i < length xs) × (get_or xs i 0 ≡ v)
place_from_member [] v h = absurd (false≢true (sym (is_set-nil v) ∙ h))
place_from_member (x ∷ xs) v h =
    elim (or_cases (eqb x v) (is_set xs v) (sym (is_set-cons x xs v) ∙ h)) [
      | inl e ↦ (0, omega arith, eqb-true x v e)
      | inr r ↦ let w = place_from_member xs v r in (suc w.0, omega (arith, w.1), w.2)
    ]

-- the entry of a place is a member
pub member_at : (xs : List ℕ) (v i : ℕ) → i < length xs → get_or xs i 0 ≡ v → is_set xs v ≡ true
member_at xs v i h e = ap (is_set xs) (sym e) ∙ is_set-at xs i h

-- two answers are the same where each is true with the other
same_Bool : (a b : Bool) → (a ≡ true → b ≡ true) → (b ≡ true → a ≡ true) → a ≡ b
same_Bool true true f g = refl
same_Bool true false f g = sym (f refl)
same_Bool false true f g = g refl
same_Bool false false f g = refl

-- two places of one variable are one
pub one_place : (vars room : ℕ) (array places scores : List ℕ) (i j : ℕ) → IsHeap vars room array places scores → i < length array → j < length array
    → get_or array i 0 ≡ get_or array j 0 → i ≡ j
one_place vars room array places scores i j h a b e = sym (h.placed i a) ∙ (ap (λ v. get_or places v 0) e ∙ h.placed j b)

-- the same variables wait where nothing is done
pub IsSame-refl : (w : Waiting) → IsSame w w
IsSame-refl w = record { vars = refl; long = refl; same = λ v. refl }

-- and after two steps that keep them
pub IsSame-trans : (a b c : Waiting) → IsSame a b → IsSame b c → IsSame a c
IsSame-trans a b c x y = record { vars = y.vars ∙ x.vars; long = y.long ∙ x.long; same = λ v. y.same v ∙ x.same v }

-- the variables at two places are exchanged
abbrev pub exchanged : (array : List ℕ) (i j : ℕ) → List ℕ
exchanged array i j = set (set array i (get_or array j 0)) j (get_or array i 0)

-- the entry of each place after the exchange
at_j : (array : List ℕ) (i j : ℕ) → j < length array → get_or (exchanged array i j) j 0 ≡ get_or array i 0
at_j array i j b = get_or-set_same (set array i (get_or array j 0)) j (get_or array i 0) 0 (omega (arith, b, length-set array i (get_or array j 0)))

at_i : (array : List ℕ) (i j : ℕ) → i < length array → (i ≡ j → ⊥) → get_or (exchanged array i j) i 0 ≡ get_or array j 0
at_i array i j a ne = get_or-set_other (set array i (get_or array j 0)) j i (get_or array i 0) 0 ne ∙ get_or-set_same array i (get_or array j 0) 0 a

at_other : (array : List ℕ) (i j k : ℕ) → (k ≡ i → ⊥) → (k ≡ j → ⊥) → get_or (exchanged array i j) k 0 ≡ get_or array k 0
at_other array i j k ni nj = get_or-set_other (set array i (get_or array j 0)) j k (get_or array i 0) 0 nj ∙ get_or-set_other array i k (get_or array j 0) 0 ni

-- an exchange keeps the length
pub length-exchanged : (array : List ℕ) (i j : ℕ) → length (exchanged array i j) ≡ length array
length-exchanged array i j = length-set (set array i (get_or array j 0)) j (get_or array i 0) ∙ length-set array i (get_or array j 0)

-- an exchange keeps the members
pub same_exchanged : (array : List ℕ) (i j v : ℕ) → i < length array → j < length array → is_set (exchanged array i j) v ≡ is_set array v
same_exchanged array i j v a b = same_Bool _ _
    (λ h.
    let w = place_from_member (exchanged array i j) v h in
    let low : w.0 < length array = omega (arith, w.1, length-exchanged array i j) in
    elim (cases_eq w.0 j) [
      | inl e ↦ member_at array v i a (sym (at_j array i j b) ∙ (sym (ap (λ k. get_or (exchanged array i j) k 0) e) ∙ w.2))
      | inr nj ↦ elim (cases_eq w.0 i) [
        | inl e ↦ member_at array v j b (sym (at_i array i j a (λ q. nj (e ∙ q))) ∙ (sym (ap (λ k. get_or (exchanged array i j) k 0) e) ∙ w.2))
        | inr ni ↦ member_at array v w.0 low (sym (at_other array i j w.0 ni nj) ∙ w.2)
      ]
    ])
    (λ h.
    let w = place_from_member array v h in
    let n = length-exchanged array i j in
    elim (cases_eq w.0 i) [
      | inl e ↦ member_at (exchanged array i j) v j (omega (arith, b, n)) (at_j array i j b ∙ (sym (ap (λ k. get_or array k 0) e) ∙ w.2))
      | inr ni ↦ elim (cases_eq w.0 j) [
        | inl e ↦ elim (cases_eq i j) [
          | inl q ↦ absurd (ni (e ∙ sym q))
          | inr far ↦ member_at (exchanged array i j) v i (omega (arith, a, n)) (at_i array i j a far ∙ (sym (ap (λ k. get_or array k 0) e) ∙ w.2))
        ]
        | inr nj ↦ member_at (exchanged array i j) v w.0 (omega (arith, w.1, n)) (at_other array i j w.0 ni nj ∙ w.2)
      ]
    ])

-- each entry after the exchange is one from before
exchanged_at : (array : List ℕ) (i j k : ℕ) → i < length array → j < length array → k < length array
    → (m : ℕ) × (m < length array) × (get_or (exchanged array i j) k 0 ≡ get_or array m 0)
exchanged_at array i j k a b low = elim (cases_eq k j) [
  | inl e ↦ (i, a, ap (λ m. get_or (exchanged array i j) m 0) e ∙ at_j array i j b)
  | inr nj ↦ elim (cases_eq k i) [
    | inl e ↦ (j, b, ap (λ m. get_or (exchanged array i j) m 0) e ∙ at_i array i j a (λ q. nj (e ∙ q)))
    | inr ni ↦ (k, low, at_other array i j k ni nj)
  ]
]

-- a heap is one after the exchange of two places
pub IsHeap-exchanged : (vars room : ℕ) (array places scores : List ℕ) (i j : ℕ) → IsHeap vars room array places scores → i < length array → j < length array
    → IsHeap vars room (exchanged array i j) (set (set places (get_or array j 0) i) (get_or array i 0) j) scores
IsHeap-exchanged vars room array places scores i j h a b = record {
  roomy = h.roomy;
  long = length-set (set places (get_or array j 0) i) (get_or array i 0) j ∙ (length-set places (get_or array j 0) i ∙ h.long);
  scored = h.scored;
  some = λ k q. let w = exchanged_at array i j k a b (low k q) in omega (arith, h.some w.0 w.1, w.2);
  within = λ k q. let w = exchanged_at array i j k a b (low k q) in omega (arith, h.within w.0 w.1, w.2);
  placed = λ k q. elim (cases_eq k j) [
    | inl e ↦
        let v : get_or (exchanged array i j) k 0 ≡ get_or array i 0 = ap (λ m. get_or (exchanged array i j) m 0) e ∙ at_j array i j b in
        ap (λ m. get_or (set (set places (get_or array j 0) i) (get_or array i 0) j) m 0) v
        ∙ (get_or-set_same (set places (get_or array j 0) i) (get_or array i 0) j 0
        (omega (arith, h.within i a, h.long, length-set places (get_or array j 0) i)) ∙ sym e)
    | inr nj ↦ elim (cases_eq k i) [
      | inl e ↦
          let far : i ≡ j → ⊥ = λ q. nj (e ∙ q) in
          let v : get_or (exchanged array i j) k 0 ≡ get_or array j 0 = ap (λ m. get_or (exchanged array i j) m 0) e ∙ at_i array i j a far in
          ap (λ m. get_or (set (set places (get_or array j 0) i) (get_or array i 0) j) m 0) v
          ∙ (get_or-set_other (set places (get_or array j 0) i) (get_or array i 0) (get_or array j 0) j 0
          (λ s. far (sym (one_place vars room array places scores j i h b a s)))
          ∙ (get_or-set_same places (get_or array j 0) i 0 (omega (arith, h.within j b, h.long)) ∙ sym e))
      | inr ni ↦
          let c = low k q in
          ap (λ m. get_or (set (set places (get_or array j 0) i) (get_or array i 0) j) m 0) (at_other array i j k ni nj)
          ∙ (get_or-set_other (set places (get_or array j 0) i) (get_or array i 0) (get_or array k 0) j 0
          (λ s. ni (one_place vars room array places scores k i h c a s))
          ∙ (get_or-set_other places (get_or array j 0) (get_or array k 0) i 0 (λ s. nj (one_place vars room array places scores k j h c b s)) ∙ h.placed k c))
    ]
  ];
}
  where
    low : (k : ℕ) → k < length (exchanged array i j) → k < length array
    low k q = omega (arith, q, length-exchanged array i j)

-- whether a variable is in, by the table
pub table_tells : (vars room : ℕ) (array places scores : List ℕ) (v p : ℕ) → IsHeap vars room array places scores → p ≡ get_or places v 0
    → is_set array v ≡ true → (p < length array) × (get_or array p 0 ≡ v)
table_tells vars room array places scores v p h e s =
    let w = place_from_member array v s in
    let here : p ≡ w.0 = e ∙ (ap (λ q. get_or places q 0) (sym w.2) ∙ h.placed w.0 w.1) in
    (omega (arith, here, w.1), ap (λ q. get_or array q 0) here ∙ w.2)

-- the entry at the table's place tells whether a variable is in
pub contains_in : (vars room : ℕ) (array places scores : List ℕ) (v p : ℕ) → IsHeap vars room array places scores → p ≡ get_or places v 0
    → p < length array → eqb (get_or array p 0) v ≡ is_set array v
contains_in vars room array places scores v p h e low = same_Bool _ _
    (λ q. member_at array v p low (eqb-true (get_or array p 0) v q))
    (λ s. eq-eqb (get_or array p 0) v (table_tells vars room array places scores v p h e s).1)

-- a variable whose place is behind the array is not in
pub contains_out : (vars room : ℕ) (array places scores : List ℕ) (v p : ℕ) → IsHeap vars room array places scores → p ≡ get_or places v 0
    → length array ≤ p → is_set array v ≡ false
contains_out vars room array places scores v p h e high = false_from_ne_true _
    (λ s. let t = (table_tells vars room array places scores v p h e s).0 in absurd (omega arith))

-- the variables differ, so there is room for one that is not in
pub room_left : (vars room : ℕ) (array places scores : List ℕ) (v : ℕ) → IsHeap vars room array places scores → v < vars + 1 → is_set array v ≡ false
    → length array < room
room_left vars room array places scores v h low out =
    let all : List ℕ = array ++ v ∷ [] in
    let few = length-le_from_distinct_below all (vars + 1) distinct below in
    omega (arith, few, h.roomy, length_push array v)
  where
    turned : (xs : List ℕ) (q : ℕ) → list_any (eqb q) xs ≡ true → is_set xs q ≡ true
    turned [] q t = absurd (false≢true t)
    turned (x ∷ xs) q t = elim (or_cases (eqb q x) (list_any (eqb q) xs) t) [
      | inl e ↦ member_at (x ∷ xs) q 0 (omega arith) (sym (eqb-true q x e))
      | inr r ↦ is_set_later x xs q (turned xs q r)
    ]

    below : (q : ℕ) → list_any (eqb q) (array ++ v ∷ []) ≡ true → q < vars + 1
    below q t = elim (or_cases (is_set array q) (eqb v q) (sym (is_set-push array v q) ∙ turned (array ++ v ∷ []) q t)) [
      | inl s ↦ let w = place_from_member array q s in omega (arith, h.within w.0 w.1, w.2)
      | inr e ↦ omega (arith, low, eqb-true v q e)
    ]

    distinct : IsDistinct eqb (array ++ v ∷ [])
    distinct = IsDistinct-from_apart eqb (array ++ v ∷ []) (λ i j d lt q. ne_eqb (get_or (array ++ v ∷ []) i d) (get_or (array ++ v ∷ []) j d)
        (λ e. apart i j lt q (get_or_default (array ++ v ∷ []) i 0 d (omega (arith, lt, q)) ∙ (e ∙ get_or_default (array ++ v ∷ []) j d 0 q))))
      where
        apart : (i j : ℕ) → i < j → j < length (array ++ v ∷ []) → get_or (array ++ v ∷ []) i 0 ≡ get_or (array ++ v ∷ []) j 0 → ⊥
        apart i j lt q e =
            let n = length_push array v in
            let i_in : i < length array = omega (arith, lt, q, n) in
            let at_i : get_or (array ++ v ∷ []) i 0 ≡ get_or array i 0 = get_or_append_left array (v ∷ []) 0 i i_in in
            elim (cases_lt j (length array)) [
              | inl j_in ↦ let s = one_place vars room array places scores i j h i_in j_in
                  (sym at_i ∙ (e ∙ get_or_append_left array (v ∷ []) 0 j j_in)) in absurd (omega arith)
              | inr ge ↦
                  let last : get_or (array ++ v ∷ []) j 0 ≡ v = get_or_push array v 0 j (omega (arith, ge, q, n)) in
                  both_ways _ out (member_at array v i i_in (sym at_i ∙ (e ∙ last)))
            ]

-- a heap is one with a variable at its end
pub IsHeap-push : (vars room : ℕ) (array places scores : List ℕ) (v : ℕ) → IsHeap vars room array places scores → 0 < v → v < vars + 1
    → is_set array v ≡ false → IsHeap vars room (array ++ v ∷ []) (set places v (length array)) scores
IsHeap-push vars room array places scores v h some low out = record {
  roomy = h.roomy;
  long = length-set places v (length array) ∙ h.long;
  scored = h.scored;
  some = λ i q. elim (cases_lt i (length array)) [
    | inl lt ↦ omega (arith, get_or_append_left array (v ∷ []) 0 i lt, h.some i lt)
    | inr ge ↦ omega (arith, get_or_push array v 0 i (omega (arith, ge, q, length_push array v)), some)
  ];
  within = λ i q. elim (cases_lt i (length array)) [
    | inl lt ↦ omega (arith, get_or_append_left array (v ∷ []) 0 i lt, h.within i lt)
    | inr ge ↦ omega (arith, get_or_push array v 0 i (omega (arith, ge, q, length_push array v)), low)
  ];
  placed = λ i q. elim (cases_lt i (length array)) [
    | inl lt ↦
        let ne : get_or array i 0 ≡ v → ⊥ = λ e. both_ways _ out (member_at array v i lt e) in
        ap (λ m. get_or (set places v (length array)) m 0) (get_or_append_left array (v ∷ []) 0 i lt)
        ∙ (get_or-set_other places v (get_or array i 0) (length array) 0 ne ∙ h.placed i lt)
    | inr ge ↦
        let e : length array ≡ i = omega (arith, ge, q, length_push array v) in
        ap (λ m. get_or (set places v (length array)) m 0) (get_or_push array v 0 i e)
        ∙ (get_or-set_same places v (length array) 0 (omega (arith, low, h.long)) ∙ e)
  ];
}

-- a front is no longer than its number, nor than the whole
front_length : (n : ℕ) (xs : List ℕ) → (length (take n xs) ≤ n) × (length (take n xs) ≤ length xs)
front_length zero xs = (omega arith, omega arith)
front_length (suc n) [] = (omega arith, omega arith)
front_length (suc n) (x ∷ xs) = let r = front_length n xs in (omega (arith, r.0), omega (arith, r.1))

-- each front of a heap is one
pub IsHeap-take : (vars room n : ℕ) (array places scores : List ℕ) → IsHeap vars room array places scores → IsHeap vars room (take n array) places scores
IsHeap-take vars room n array places scores h = record {
  roomy = h.roomy;
  long = h.long;
  scored = h.scored;
  some = λ i q. let b = front_length n array in omega (arith, get_or-take n array i 0 (omega (arith, q, b.0)), h.some i (omega (arith, q, b.1)));
  within = λ i q. let b = front_length n array in omega (arith, get_or-take n array i 0 (omega (arith, q, b.0)), h.within i (omega (arith, q, b.1)));
  placed = λ i q. let b = front_length n array in ap (λ v. get_or places v 0) (get_or-take n array i 0 (omega (arith, q, b.0)))
      ∙ h.placed i (omega (arith, q, b.1));
}

-- the last variable is none of those before it
pub last_out : (vars room : ℕ) (array places scores : List ℕ) (n v : ℕ) → IsHeap vars room array places scores → suc n ≡ length array
    → v ≡ get_or array n 0 → is_set (take n array) v ≡ false
last_out vars room array places scores n v h e is = false_from_ne_true _ (λ t.
    let w = place_from_member (take n array) v t in
    let b = front_length n array in
    let low : w.0 < n = omega (arith, w.1, b.0) in
    let here : get_or array w.0 0 ≡ v = sym (get_or-take n array w.0 0 low) ∙ w.2 in
    let s = one_place vars room array places scores w.0 n h (omega (arith, low, e)) (omega (arith, e)) (here ∙ is) in
    absurd (omega (arith, s, low)))

-- what `pop` does, from its three steps
pub IsTaken-from : (old moved front new : Waiting) (var : ℕ) → IsSame old moved → 1 ≤ var → var ≤ moved.vars → front.vars ≡ moved.vars
    → moved.inside ≡ front.inside ++ var ∷ [] → is_set front.inside var ≡ false → IsSame front new → IsTaken old new var
IsTaken-from old moved front new var a some within vars last out b = record {
  vars = b.vars ∙ (vars ∙ a.vars);
  some = some;
  within = omega (arith, within, a.vars);
  fewer = omega (arith, a.long, b.long, ap length last, length_push front.inside var);
  was = sym (a.same var) ∙ (ap (λ xs. is_set xs var) last ∙ (is_set-push front.inside var var ∙ right (is_set front.inside var) (eq-eqb var var refl)));
  out = b.same var ∙ out;
  others = λ v ne. b.same v ∙ (sym (or-false (is_set front.inside v)) ∙ (ap (λ x. is_set front.inside v || x) (sym (ne_eqb var v (λ e. ne (sym e))))
      ∙ (sym (is_set-push front.inside var v) ∙ (sym (ap (λ xs. is_set xs v) last) ∙ a.same v))));
}
  where
    right : (x : Bool) {y : Bool} → y ≡ true → (x || y) ≡ true
    right true e = refl
    right false e = e
