-- Watches in their lists, and what each move does to them.
use Rattle.std.proofs.Common.{◌≡◌, ℕ, ◌+◌, ◌<◌, true, false, eqb, List, [], ◌∷◌, ◌++◌, length, get_or, set, replicate, sym, ap, ◌∙◌, subst, inl, inr}
use Rattle.std.proofs.Common.{◌⊎◌, arith}
use Rattle.std.proofs.lemmas.Bool.{false≢true, cases_Bool, cases_lt, cases_eq, eqb-true, both_ways, or_cases}
use Rattle.std.proofs.lemmas.List.{length-set, get_or-set_same, get_or-set_other, get_or_append_left, get_or_push, get_or_past, get_or-replicate}
use Rattle.std.proofs.lemmas.List.{length-replicate, length_push}
use Rattle.proof_log.specs.Clauses.{is_set}
use Rattle.proof_log.proofs.Members.{is_set-nil, is_set-cons, is_set_first, is_set_later}
use Rattle.watch_lists.specs.Chains.{Linked, IsFree, list_at}
use Rattle.watch_lists.specs.Watchings.{IsWatching}

-- nothing is in an empty list
in_none : (ns : List ℕ) (n : ℕ) → ns ≡ [] → is_set ns n ≡ true → ⊥
in_none ns n e h = false≢true (sym (ap (λ xs. is_set xs n) e ∙ is_set-nil n) ∙ h)

-- what stood in a list stands there when one more is put into some list
still_in : (lists : List (List ℕ)) (l n k m : ℕ) → l < length lists → is_set (list_at lists k) m ≡ true
    → is_set (list_at (set lists l (n ∷ list_at lists l)) k) m ≡ true
still_in lists l n k m here h = elim (cases_eq k l) [
  | inl e ↦
      let P : ℕ → Type 0 = λ i. is_set (get_or (set lists l (n ∷ get_or lists l [])) i []) m ≡ true in
      subst P (sym e) (ap (λ ns. is_set ns m) (get_or-set_same lists l (n ∷ get_or lists l []) [] here) ∙ is_set_later n (get_or lists l []) m
      (ap (λ i. is_set (get_or lists i []) m) (sym e) ∙ h))
  | inr ne ↦ ap (λ ns. is_set ns m) (get_or-set_other lists l k (n ∷ get_or lists l []) [] ne) ∙ h
]

-- who stands in a list then is that one, or stood there
new_in : (lists : List (List ℕ)) (l n k m : ℕ) → l < length lists → is_set (list_at (set lists l (n ∷ list_at lists l)) k) m ≡ true
    → ((m ≡ n) × (k ≡ l)) ⊎ (is_set (list_at lists k) m ≡ true)
new_in lists l n k m here h = elim (cases_eq k l) [
  | inl e ↦
      let at_l : get_or (set lists l (n ∷ get_or lists l [])) k [] ≡ n ∷ get_or lists l [] =
      ap (λ i. get_or (set lists l (n ∷ get_or lists l [])) i []) e ∙ get_or-set_same lists l (n ∷ get_or lists l []) [] here in
      elim (or_cases (eqb n m) (is_set (get_or lists l []) m) (sym (is_set-cons n (get_or lists l []) m) ∙ (ap (λ ns. is_set ns m) (sym at_l) ∙ h))) [
        | inl same ↦ inl (sym (eqb-true n m same), e)
        | inr r ↦ inr (ap (λ i. is_set (get_or lists i []) m) e ∙ r)
      ]
  | inr ne ↦ inr (ap (λ ns. is_set ns m) (sym (get_or-set_other lists l k (n ∷ get_or lists l []) [] ne)) ∙ h)
]

abbrev no_lists : ℕ → List (List ℕ)
no_lists count = replicate count []

pub IsWatching-new : (count : ℕ) → 0 < count → IsWatching (replicate count []) 0 []
IsWatching-new count some = record {
  some = omega (arith, length-replicate {A = List ℕ} count []);
  long = cc;
  below = λ n. omega (arith, get_or_past {X = ℕ} [] n 0 (omega arith), length-replicate {A = List ℕ} count []);
  listed = λ n h. absurd (omega (arith, get_or_past {X = ℕ} [] n 0 (omega arith)));
  own = λ l n h w. absurd (in_none (get_or (replicate count []) l []) n (none l) w);
  waits = λ n w. absurd (in_none (get_or (replicate count []) 0 []) n (none 0) w);
}
  where
    none : (l : ℕ) → get_or (no_lists count) l [] ≡ []
    none l = elim (cases_lt l count) [
      | inl lt ↦ get_or-replicate count l [] [] lt
      | inr ge ↦ get_or_past (no_lists count) l [] (omega (arith, length-replicate {A = List ℕ} count []))
    ]

-- an entry for one more watch, which is on no literal
pub zero_more : (xs : List ℕ) (n : ℕ) → get_or (xs ++ 0 ∷ []) n 0 ≡ get_or xs n 0
zero_more xs n = elim (cases_lt n (length xs)) [
  | inl lt ↦ get_or_append_left xs (0 ∷ []) 0 n lt
  | inr ge ↦ elim (cases_eq (length xs) n) [
    | inl e ↦ get_or_push xs 0 0 n e ∙ sym (get_or_past xs n 0 ge)
    | inr ne ↦ get_or_past (xs ++ 0 ∷ []) n 0 (omega (arith, length_push xs 0)) ∙ sym (get_or_past xs n 0 ge)
  ]
]

pub IsWatching-add : (lists : List (List ℕ)) (nodes : ℕ) (literals : List ℕ) → IsWatching lists nodes literals → IsWatching lists (nodes + 1)
    (literals ++ 0 ∷ [])
IsWatching-add lists nodes literals w = record {
  some = w.some;
  long = omega (arith, w.long, length_push literals 0);
  below = λ n. omega (arith, w.below n, zero_more literals n);
  listed = λ n h. let P : ℕ → Type 0 = λ l. (is_set (list_at lists l) n ≡ true) ⊎ (is_set (list_at lists 0) n ≡ true) in
      subst P (sym (zero_more literals n)) (w.listed n (omega (arith, h, zero_more literals n)));
  own = λ l n h i. zero_more literals n ∙ w.own l n h i;
  waits = λ n i. omega (arith, w.waits n i, zero_more literals n);
}

-- a watch on no literal stands in no list
pub free_at : (lists : List (List ℕ)) (nodes : ℕ) (literals : List ℕ) (n : ℕ) → IsWatching lists nodes literals → get_or literals n 0 ≡ 0 → IsFree lists n
free_at lists nodes literals n w e l = elim (cases_eq l 0) [
  | inl z ↦ no l (λ h. let k = w.waits n (ap (λ i. is_set (list_at lists i) n) (sym z) ∙ h) in omega (arith, k, e))
  | inr ne ↦ no l (λ h. let k = w.own l n (omega arith) h in ne (sym k ∙ e))
]
  where
    no : (l : ℕ) → (is_set (list_at lists l) n ≡ true → ⊥) → is_set (list_at lists l) n ≡ false
    no l f = elim (cases_Bool (is_set (list_at lists l) n)) [ inl t ↦ absurd (f t) | inr b ↦ b ]

pub IsWatching-attach : (lists : List (List ℕ)) (nodes : ℕ) (literals : List ℕ) (n l : ℕ) → IsWatching lists nodes literals → n < length literals
    → get_or literals n 0 ≡ 0 → 0 < l → l < length lists
    → IsWatching (set lists l (n ∷ list_at lists l)) nodes (set literals n l)
IsWatching-attach lists nodes literals n l w here free some low = record {
  some = omega (arith, some, low, length-set lists l (n ∷ get_or lists l []));
  long = length-set literals n l ∙ w.long;
  below = λ m. elim (cases_eq m n) [
    | inl e ↦ omega (arith, at_n m e, low, length-set lists l (n ∷ get_or lists l []))
    | inr ne ↦ omega (arith, at_other m ne, w.below m, length-set lists l (n ∷ get_or lists l []))
  ];
  listed = λ m h. elim (cases_eq m n) [
    | inl e ↦
        let P : ℕ → Type 0 = λ i. is_set (list_at (set lists l (n ∷ list_at lists l)) i) m ≡ true in
        let there : is_set (list_at (set lists l (n ∷ list_at lists l)) l) m ≡ true =
        ap (λ ns. is_set ns m) (get_or-set_same lists l (n ∷ get_or lists l []) [] low)
        ∙ (ap (is_set (n ∷ get_or lists l [])) e ∙ is_set_first n (get_or lists l [])) in
        inl (subst P (sym (at_n m e)) there)
    | inr ne ↦
        let P : ℕ → Type 0 = λ i. (is_set (list_at (set lists l (n ∷ list_at lists l)) i) m ≡ true) ⊎
        (is_set (list_at (set lists l (n ∷ list_at lists l)) 0) m ≡ true) in
        subst P (sym (at_other m ne)) (elim (w.listed m (omega (arith, h, at_other m ne))) [
          | inl i ↦ inl (still_in lists l n (get_or literals m 0) m low i)
          | inr i ↦ inr (still_in lists l n 0 m low i)
        ])
  ];
  own = λ k m h i. elim (new_in lists l n k m low i) [
    | inl p ↦ at_n m p.0 ∙ sym p.1
    | inr o ↦ let v = w.own k m h o in at_other m (λ e. let z = ap (λ j. get_or literals j 0) e in omega (arith, v, z, free, h)) ∙ v
  ];
  waits = λ m i. elim (new_in lists l n 0 m low i) [
    | inl p ↦ absurd (omega (arith, p.1, some))
    | inr o ↦ let v = w.waits m o in omega (arith, v, at_other m (λ e. let z = ap (λ j. get_or literals j 0) e in omega (arith, v, z, free)))
  ];
}
  where
    at_n : (m : ℕ) → m ≡ n → get_or (set literals n l) m 0 ≡ l
    at_n m e = ap (λ j. get_or (set literals n l) j 0) e ∙ get_or-set_same literals n l 0 here

    at_other : (m : ℕ) → (m ≡ n → ⊥) → get_or (set literals n l) m 0 ≡ get_or literals m 0
    at_other m ne = get_or-set_other literals n m l 0 ne

-- the list that waits stays where a watch goes into another one
pub waiting_kept : (lists : List (List ℕ)) (l n : ℕ) → 0 < l → list_at (set lists l (n ∷ list_at lists l)) 0 ≡ list_at lists 0
waiting_kept lists l n some = get_or-set_other lists l 0 (n ∷ get_or lists l []) [] (λ e. absurd (omega arith))

-- the lists where those of one literal wait
abbrev pub gathered : List (List ℕ) → ℕ → List (List ℕ)
gathered lists l = set (set lists 0 (list_at lists l)) l []

pub record IsGathered (lists : List (List ℕ)) (nodes : ℕ) (literals : List ℕ) (l : ℕ) : Type 0 where
  pub watching : IsWatching (gathered lists l) nodes literals
  pub on : (n : ℕ) → is_set (list_at (gathered lists l) 0) n ≡ true → get_or literals n 0 ≡ l
  pub all : (n : ℕ) → get_or literals n 0 ≡ l → is_set (list_at (gathered lists l) 0) n ≡ true
  pub limit : length (gathered lists l) ≡ length lists

pub gathered_from : (lists : List (List ℕ)) (nodes : ℕ) (literals : List ℕ) (l : ℕ) → IsWatching lists nodes literals → 0 < l → l < length lists
    → list_at lists 0 ≡ [] → IsGathered lists nodes literals l
gathered_from lists nodes literals l w some low none = record {
  watching = record {
    some = omega (arith, w.some, size);
    long = w.long;
    below = λ n. omega (arith, w.below n, size);
    listed = λ n h. elim (w.listed n h) [
      | inl i ↦ elim (cases_eq (get_or literals n 0) l) [
        | inl e ↦ inr (ap (λ ns. is_set ns n) at_zero ∙ (ap (λ j. is_set (get_or lists j []) n) (sym e) ∙ i))
        | inr ne ↦ inl (ap (λ ns. is_set ns n) (at_other (get_or literals n 0) (λ e. absurd (omega arith)) ne) ∙ i)
      ]
      | inr i ↦ absurd (in_none (get_or lists 0 []) n none i)
    ];
    own = λ k n h i. elim (cases_eq k l) [
      | inl e ↦ absurd (in_none (get_or (gathered lists l) k []) n (ap (λ j. get_or (gathered lists l) j []) e
          ∙ get_or-set_same (set lists 0 (get_or lists l [])) l [] [] (omega (arith, low, length-set lists 0 (get_or lists l [])))) i)
      | inr ne ↦ w.own k n h (ap (λ ns. is_set ns n) (sym (at_other k (λ e. absurd (omega arith)) ne)) ∙ i)
    ];
    waits = λ n i. let e = w.own l n some (ap (λ ns. is_set ns n) (sym at_zero) ∙ i) in omega (arith, e, some);
  };
  on = λ n i. w.own l n some (ap (λ ns. is_set ns n) (sym at_zero) ∙ i);
  all = λ n e. elim (w.listed n (omega (arith, e, some))) [
    | inl i ↦ ap (λ ns. is_set ns n) at_zero ∙ (ap (λ j. is_set (get_or lists j []) n) (sym e) ∙ i)
    | inr i ↦ absurd (in_none (get_or lists 0 []) n none i)
  ];
  limit = size;
}
  where
    size : length (gathered lists l) ≡ length lists
    size = length-set (set lists 0 (get_or lists l [])) l [] ∙ length-set lists 0 (get_or lists l [])

    at_zero : get_or (gathered lists l) 0 [] ≡ get_or lists l []
    at_zero = get_or-set_other (set lists 0 (get_or lists l [])) l 0 [] [] (λ e. absurd (omega arith)) ∙ get_or-set_same lists 0 (get_or lists l []) [] w.some

    at_other : (k : ℕ) → (k ≡ 0 → ⊥) → (k ≡ l → ⊥) → get_or (gathered lists l) k [] ≡ get_or lists k []
    at_other k nz ne = get_or-set_other (set lists 0 (get_or lists l [])) l k [] [] ne ∙ get_or-set_other lists 0 k (get_or lists l []) [] nz

pub IsWatching-take : (lists : List (List ℕ)) (nodes : ℕ) (literals : List ℕ) (n : ℕ) (rest : List ℕ) → IsWatching lists nodes literals
    → n < length literals → list_at lists 0 ≡ n ∷ rest → IsFree (set lists 0 rest) n
    → IsWatching (set lists 0 rest) nodes (set literals n 0)
IsWatching-take lists nodes literals n rest w here first free = record {
  some = omega (arith, w.some, length-set lists 0 rest);
  long = length-set literals n 0 ∙ w.long;
  below = λ m. elim (cases_eq m n) [
    | inl e ↦ omega (arith, at_n m e, w.some, length-set lists 0 rest)
    | inr ne ↦ omega (arith, at_other m ne, w.below m, length-set lists 0 rest)
  ];
  listed = λ m h. elim (cases_eq m n) [
    | inl e ↦ absurd (omega (arith, h, at_n m e))
    | inr ne ↦
        let P : ℕ → Type 0 = λ i. (is_set (list_at (set lists 0 rest) i) m ≡ true) ⊎ (is_set (list_at (set lists 0 rest) 0) m ≡ true) in
        subst P (sym (at_other m ne)) (elim (w.listed m (omega (arith, h, at_other m ne))) [
          | inl i ↦ inl (ap (λ ns. is_set ns m) (get_or-set_other lists 0 (get_or literals m 0) rest [] (λ e. absurd (omega (arith, h, at_other m ne)))) ∙ i)
          | inr i ↦ inr (ap (λ ns. is_set ns m) (get_or-set_same lists 0 rest [] w.some)
              ∙ (elim (or_cases (eqb n m) (is_set rest m) (sym (is_set-cons n rest m) ∙ (ap (λ ns. is_set ns m) (sym first) ∙ i))) [
                | inl same ↦ absurd (ne (sym (eqb-true n m same)))
                | inr r ↦ r
              ]))
        ])
  ];
  own = λ k m h i.
      let old : is_set (get_or lists k []) m ≡ true = ap (λ ns. is_set ns m) (sym (get_or-set_other lists 0 k rest [] (λ e. absurd (omega arith)))) ∙ i in
      at_other m (λ e. both_ways _ (free k) (ap (is_set (list_at (set lists 0 rest) k)) (sym e) ∙ i)) ∙ w.own k m h old;
  waits = λ m i.
      let in_rest : is_set rest m ≡ true = ap (λ ns. is_set ns m) (sym (get_or-set_same lists 0 rest [] w.some)) ∙ i in
      let v = w.waits m (ap (λ ns. is_set ns m) first ∙ is_set_later n rest m in_rest) in
      omega (arith, v, at_other m (λ e. both_ways _ (free 0) (ap (is_set (list_at (set lists 0 rest) 0)) (sym e) ∙ i)));
}
  where
    at_n : (m : ℕ) → m ≡ n → get_or (set literals n 0) m 0 ≡ 0
    at_n m e = ap (λ j. get_or (set literals n 0) j 0) e ∙ get_or-set_same literals n 0 0 here

    at_other : (m : ℕ) → (m ≡ n → ⊥) → get_or (set literals n 0) m 0 ≡ get_or literals m 0
    at_other m ne = get_or-set_other literals n m 0 0 ne

-- what taking the first of those that wait does
pub record IsTaken (lists : List (List ℕ)) (literals : List ℕ) (new : Linked) (n : ℕ) : Type 0 where
  pub watching : IsWatching new.lists new.nodes (set literals n 0)
  pub here : n < length literals
  pub on : 0 < get_or literals n 0
  pub gone : is_set (list_at new.lists 0) n ≡ false
  pub first : list_at lists 0 ≡ n ∷ list_at new.lists 0
  pub limit : length new.lists ≡ length lists

pub taken_from : (lists : List (List ℕ)) (nodes : ℕ) (literals : List ℕ) (new : Linked) (n : ℕ) → IsWatching lists nodes literals → n < nodes
    → IsFree new.lists n
    → (rest : List ℕ) → list_at lists 0 ≡ n ∷ rest → new ≡ record { nodes = nodes; lists = set lists 0 rest } → IsTaken lists literals new n
taken_from lists nodes literals new n w low free rest first e =
    let ls : new.lists ≡ set lists 0 rest = ap (λ (x : Linked). x.lists) e in
    let ns : new.nodes ≡ nodes = ap (λ (x : Linked). x.nodes) e in
    let P : Linked → Type 0 = λ x. IsWatching x.lists x.nodes (set literals n 0) in
    let F : List (List ℕ) → Type 0 = λ xs. IsFree xs n in
    let here : n < length literals = omega (arith, w.long, low) in
    let at_zero : list_at new.lists 0 ≡ rest = ap (λ xs. get_or xs 0 []) ls ∙ get_or-set_same lists 0 rest [] w.some in
    record {
      watching = subst P (sym e) (IsWatching-take lists nodes literals n rest w here first (subst F ls free));
      here = here;
      on = w.waits n (ap (λ xs. is_set xs n) first ∙ is_set_first n rest);
      gone = free 0;
      first = first ∙ ap (λ xs. n ∷ xs) (sym at_zero);
      limit = ap length ls ∙ length-set lists 0 rest;
    }
