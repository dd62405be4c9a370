-- Lists that are linked through a table, and what a change of one link does to them.
use Rattle.std.proofs.Common.{◌≡◌, ℕ, zero, suc, ◌+◌, ◌<◌, ◌≤◌, true, false, eqb, ◌||◌, List, [], ◌∷◌, ◌++◌, map, length, get_or, set, replicate}
use Rattle.std.proofs.Common.{refl, sym, ap, ◌∙◌, subst, inl, inr, ◌⊎◌, arith}
use Rattle.std.specs.List.{list_any, IsDistinct, AllByRecursion}
use Rattle.std.proofs.lemmas.Bool.{false≢true, cases_lt, cases_eq, eqb-false, eqb-true, ne_eqb, false_from_ne_true, both_ways, or_cases}
use Rattle.std.proofs.lemmas.List.{length-set, length-map, get_or-set_same, get_or-set_other, get_or_append_left, get_or-replicate, length-replicate}
use Rattle.std.proofs.lemmas.List.{length-append, get_or_past, ext_get_or}
use Rattle.std.proofs.lemmas.Map.Steps.{length-le_from_distinct_below}
use Rattle.proof_log.specs.Clauses.{is_set}
use Rattle.proof_log.proofs.Members.{is_set-nil, is_set-cons, or_both_false, is_set_first, is_set_later}
use Rattle.watch_lists.specs.Chains.{walk, lists_of, IsChain, list_at, IsLinked, IsFree}

-- with room enough the walk finds exactly the chain's nodes
pub walk_chain : (links ns : List ℕ) (link room : ℕ) → IsChain links link ns → length ns ≤ room → walk links room link ≡ ns
walk_chain links [] link zero c h = refl
walk_chain links [] link (suc room) c h = ap (walk links (suc room)) c
walk_chain links (n ∷ ns) link zero c h = absurd (omega arith)
walk_chain links (n ∷ ns) link (suc room) c h =
    ap (walk links (suc room)) c.0 ∙ ap (λ xs. n ∷ xs) (walk_chain links ns (get_or links n 0) room c.2 (omega arith))

-- a chain stands where the link of a node outside it changes
pub IsChain-set : (links ns : List ℕ) (link n v : ℕ) → IsChain links link ns → is_set ns n ≡ false → IsChain (set links n v) link ns
IsChain-set links [] link n v c free = c
IsChain-set links (m ∷ ms) link n v c free =
    let parts = or_both_false _ _ (sym (is_set-cons m ms n) ∙ free) in
    let P : ℕ → Type 0 = λ q. IsChain (set links n v) q ms in (
      c.0,
      omega (arith, c.1, length-set links n v),
      subst P (sym (get_or-set_other links n m v 0 (eqb-false m n parts.0))) (IsChain-set links ms (get_or links m 0) n v c.2 parts.1),
    )

-- a chain stands in a longer table
pub IsChain-append : (links more ns : List ℕ) (link : ℕ) → IsChain links link ns → IsChain (links ++ more) link ns
IsChain-append links more [] link c = c
IsChain-append links more (m ∷ ms) link c =
    let P : ℕ → Type 0 = λ q. IsChain (links ++ more) q ms in (
      c.0,
      omega (arith, c.1, length-append links more),
      subst P (sym (get_or_append_left links more 0 m c.1)) (IsChain-append links more ms (get_or links m 0) c.2),
    )

-- nodes are places of the table
pub node_below : (links ns : List ℕ) (link n : ℕ) → IsChain links link ns → is_set ns n ≡ true → n < length links
node_below links [] link n c h = absurd (false≢true (sym (is_set-nil n) ∙ h))
node_below links (m ∷ ms) link n c h =
    elim (or_cases (eqb m n) (is_set ms n) (sym (is_set-cons m ms n) ∙ h)) [
      | inl e ↦ omega (arith, c.1, eqb-true m n e)
      | inr r ↦ node_below links ms (get_or links m 0) n c.2 r
    ]

is_set-turned : (ns : List ℕ) (q : ℕ) → list_any (eqb q) ns ≡ true → is_set ns q ≡ true
is_set-turned [] q h = absurd (false≢true h)
is_set-turned (n ∷ ns) q h =
    elim (or_cases (eqb q n) (list_any (eqb q) ns) h) [
      | inl e ↦ ap (is_set (n ∷ ns)) (eqb-true q n e) ∙ is_set_first n ns
      | inr r ↦ is_set_later n ns q (is_set-turned ns q r)
    ]

-- so a chain without repetitions is no longer than the table
pub chain_short : (links ns : List ℕ) (link : ℕ) → IsChain links link ns → IsDistinct eqb ns → length ns ≤ length links
chain_short links ns link c d = length-le_from_distinct_below ns (length links) d (λ q h. node_below links ns link q c (is_set-turned ns q h))

-- the head of a list without repetitions is not in its rest, and the other way round
pub fresh_head : (n : ℕ) (ns : List ℕ) → AllByRecursion (λ y. eqb n y ≡ false) ns → is_set ns n ≡ false
fresh_head n [] d = is_set-nil n
fresh_head n (m ∷ ms) d =
    is_set-cons m ms n ∙ (ap (λ x. x || is_set ms n) (ne_eqb m n (λ e. eqb-false n m d.0 (sym e))) ∙ fresh_head n ms d.1)

pub head_fresh : (n : ℕ) (ns : List ℕ) → is_set ns n ≡ false → AllByRecursion (λ y. eqb n y ≡ false) ns
head_fresh n [] h = tt
head_fresh n (m ∷ ms) h =
    let parts = or_both_false _ _ (sym (is_set-cons m ms n) ∙ h) in
    (ne_eqb n m (λ e. eqb-false m n parts.0 (sym e)), head_fresh n ms parts.1)

pub at_map : (f : ℕ → List ℕ) (hs : List ℕ) (l : ℕ) → l < length hs → get_or (map f hs) l [] ≡ f (get_or hs l 0)
at_map f [] l h = absurd (omega arith)
at_map f (x ∷ xs) zero h = refl
at_map f (x ∷ xs) (suc l) h = at_map f xs l (omega arith)

pub map_same : (f g : ℕ → List ℕ) (hs : List ℕ) → ((l : ℕ) → l < length hs → f (get_or hs l 0) ≡ g (get_or hs l 0)) → map f hs ≡ map g hs
map_same f g [] same = refl
map_same f g (x ∷ xs) same = ap (λ y. y ∷ map f xs) (same 0 (omega arith)) ∙ ap (λ ys. g x ∷ ys) (map_same f g xs (λ l h. same (suc l) (omega arith)))

-- the lists that the heads link to, by their contents
pub record IsLists (links heads : List ℕ) (ls : List (List ℕ)) : Type 0 where
  pub long : length ls ≡ length heads
  pub chained : (k : ℕ) → k < length heads → IsChain links (get_or heads k 0) (get_or ls k [])
  pub once : (k : ℕ) → k < length heads → IsDistinct eqb (get_or ls k [])
  pub apart : (j k n : ℕ) → j < length heads → k < length heads → is_set (get_or ls j []) n ≡ true → is_set (get_or ls k []) n ≡ true → j ≡ k

walked : (links heads : List ℕ) (k : ℕ) → k < length heads → get_or (lists_of links heads) k [] ≡ walk links (length links) (get_or heads k 0)
walked links heads k h = at_map (walk links (length links)) heads k h

pub opened : (links heads : List ℕ) → IsLinked links heads → IsLists links heads (lists_of links heads)
opened links heads w = record {
  long = length-map heads (walk links (length links));
  chained = λ k h. let P : List ℕ → Type 0 = λ ns. IsChain links (get_or heads k 0) ns in subst P (sym (walked links heads k h)) (w.chained k h);
  once = λ k h. let P : List ℕ → Type 0 = λ ns. IsDistinct eqb ns in subst P (sym (walked links heads k h)) (w.once k h);
  apart = λ j k n a b x y. w.apart j k n a b (ap (λ ns. is_set ns n) (sym (walked links heads j a)) ∙ x)
      (ap (λ ns. is_set ns n) (sym (walked links heads k b)) ∙ y);
}

pub closed : (links heads : List ℕ) (ls : List (List ℕ)) → IsLists links heads ls → IsLinked links heads × (lists_of links heads ≡ ls)
closed links heads ls s = (
  record {
    chained = λ k h. let P : List ℕ → Type 0 = λ ns. IsChain links (get_or heads k 0) ns in subst P (sym (found k h)) (s.chained k h);
    once = λ k h. let P : List ℕ → Type 0 = λ ns. IsDistinct eqb ns in subst P (sym (found k h)) (s.once k h);
    apart = λ j k n a b x y. s.apart j k n a b (ap (λ ns. is_set ns n) (sym (found j a)) ∙ x) (ap (λ ns. is_set ns n) (sym (found k b)) ∙ y);
  },
  ext_get_or [] (lists_of links heads) ls (long ∙ sym s.long) (λ k h. let b : k < length heads = omega (arith, h, long) in walked links heads k b ∙ found k b),
)
  where
    found : (k : ℕ) → k < length heads → walk links (length links) (get_or heads k 0) ≡ get_or ls k []
    found k h = walk_chain links (get_or ls k []) (get_or heads k 0) (length links) (s.chained k h) (chain_short links _ _ (s.chained k h) (s.once k h))

    long : length (lists_of links heads) ≡ length heads
    long = length-map heads (walk links (length links))

-- so many empty lists
pub IsLists-new : (heads : List ℕ) (count : ℕ) → heads ≡ replicate count 0 → IsLists [] heads (replicate count [])
unfolding IsDistinct
IsLists-new heads count e = record {
  long = length-replicate {A = List ℕ} count [] ∙ sym (ap length e ∙ length-replicate {A = ℕ} count 0);
  chained = λ k h.
      let P : List ℕ → Type 0 = λ ns. IsChain [] (get_or heads k 0) ns in
      subst P (sym (empty k h)) (ap (λ hs. get_or hs k 0) e ∙ get_or-replicate count k 0 0 (within k h));
  once = λ k h. let P : List ℕ → Type 0 = λ ns. IsDistinct eqb ns in subst P (sym (empty k h)) tt;
  apart = λ j k n a b x y. absurd (false≢true (sym (is_set-nil n) ∙ (ap (λ ns. is_set ns n) (sym (empty j a)) ∙ x)));
}
  where
    within : (k : ℕ) → k < length heads → k < count
    within k h = omega (arith, h, ap length e, length-replicate {A = ℕ} count 0)

    empty : (k : ℕ) → k < length heads → get_or {A = List ℕ} (replicate count []) k [] ≡ []
    empty k h = get_or-replicate {A = List ℕ} count k [] [] (within k h)

-- one more node, in no list
pub IsLists-node : (links heads : List ℕ) (ls : List (List ℕ)) (v : ℕ) → IsLists links heads ls → IsLists (links ++ v ∷ []) heads ls
IsLists-node links heads ls v s = record {
  long = s.long;
  chained = λ k h. IsChain-append links (v ∷ []) (get_or ls k []) (get_or heads k 0) (s.chained k h);
  once = s.once;
  apart = s.apart;
}

-- a node that is in no list becomes the first of one
pub IsLists-push : (links heads : List ℕ) (ls : List (List ℕ)) (l n : ℕ) → IsLists links heads ls → l < length heads → n < length links → IsFree ls n
    → IsLists (set links n (get_or heads l 0)) (set heads l (suc n)) (set ls l (n ∷ get_or ls l []))
unfolding IsDistinct
IsLists-push links heads ls l n s here node free = record {
  long = length-set ls l (n ∷ get_or ls l []) ∙ (s.long ∙ sym (length-set heads l (suc n)));
  chained = λ k h. elim (cases_eq k l) [
    | inl e ↦
        let P : ℕ → List ℕ → Type 0 = λ q ns. IsChain (set links n (get_or heads l 0)) q ns in
        let Q : ℕ → Type 0 = λ i. P (get_or (set heads l (suc n)) i 0) (get_or (set ls l (n ∷ get_or ls l [])) i []) in
        subst Q (sym e) (rw (get_or-set_same heads l (suc n) 0 here, get_or-set_same ls l (n ∷ get_or ls l []) [] (omega (arith, here, s.long))) first)
    | inr ne ↦ rw (get_or-set_other heads l k (suc n) 0 ne, get_or-set_other ls l k (n ∷ get_or ls l []) [] ne)
        (IsChain-set links (get_or ls k []) (get_or heads k 0) n (get_or heads l 0) (s.chained k (in_heads k h)) (free k))
  ];
  once = λ k h. elim (cases_eq k l) [
    | inl e ↦
        let Q : ℕ → Type 0 = λ i. IsDistinct eqb (get_or (set ls l (n ∷ get_or ls l [])) i []) in
        let D : List ℕ → Type 0 = λ ns. IsDistinct eqb ns in
        subst Q (sym e) (subst D (sym (get_or-set_same ls l (n ∷ get_or ls l []) [] (omega (arith, here, s.long))))
        (head_fresh n (get_or ls l []) (free l), s.once l here))
    | inr ne ↦ let D : List ℕ → Type 0 = λ ns. IsDistinct eqb ns in subst D (sym (get_or-set_other ls l k (n ∷ get_or ls l []) [] ne)) (s.once k (in_heads k h))
  ];
  apart = λ j k m a b x y. elim (member j m x) [
    | inl p ↦ elim (member k m y) [
      | inl q ↦ p.1 ∙ sym q.1
      | inr q ↦ absurd (both_ways _ (free k) (ap (is_set (get_or ls k [])) (sym p.0) ∙ q))
    ]
    | inr p ↦ elim (member k m y) [
      | inl q ↦ absurd (both_ways _ (free j) (ap (is_set (get_or ls j [])) (sym q.0) ∙ p))
      | inr q ↦ s.apart j k m (in_heads j a) (in_heads k b) p q
    ]
  ];
}
  where
    in_heads : (k : ℕ) → k < length (set heads l (suc n)) → k < length heads
    in_heads k h = omega (arith, h, length-set heads l (suc n))

    first : IsChain (set links n (get_or heads l 0)) (suc n) (n ∷ get_or ls l [])
    first =
        let P : ℕ → Type 0 = λ q. IsChain (set links n (get_or heads l 0)) q (get_or ls l []) in (
          refl,
          omega (arith, node, length-set links n (get_or heads l 0)),
          subst P (sym (get_or-set_same links n (get_or heads l 0) 0 node))
              (IsChain-set links (get_or ls l []) (get_or heads l 0) n (get_or heads l 0) (s.chained l here) (free l)),
        )

    member : (j m : ℕ) → is_set (get_or (set ls l (n ∷ get_or ls l [])) j []) m ≡ true → ((m ≡ n) × (j ≡ l)) ⊎ (is_set (get_or ls j []) m ≡ true)
    member j m x = elim (cases_eq j l) [
      | inl e ↦
          let at_l : get_or (set ls l (n ∷ get_or ls l [])) j [] ≡ n ∷ get_or ls l [] = ap (λ i. get_or (set ls l (n ∷ get_or ls l [])) i []) e
          ∙ get_or-set_same ls l (n ∷ get_or ls l []) [] (omega (arith, here, s.long)) in
          elim (or_cases (eqb n m) (is_set (get_or ls l []) m) (sym (is_set-cons n (get_or ls l []) m) ∙ (ap (λ ns. is_set ns m) (sym at_l) ∙ x))) [
            | inl same ↦ inl (sym (eqb-true n m same), e)
            | inr r ↦ inr (ap (λ i. is_set (get_or ls i []) m) e ∙ r)
          ]
      | inr ne ↦ inr (ap (λ ns. is_set ns m) (sym (get_or-set_other ls l j (n ∷ get_or ls l []) [] ne)) ∙ x)
    ]

-- what stands at a link that is not 0
pub chain_parts : (links ns : List ℕ) (link n : ℕ) → IsChain links link ns → link ≡ suc n → (rest : List ℕ) × (ns ≡ n ∷ rest) × (n < length links)
    × IsChain links (get_or links n 0) rest
chain_parts links [] link n c e = absurd (let z = sym c ∙ e in omega arith)
chain_parts links (m ∷ ms) link n c e =
    let same : m ≡ n = let z = sym c.0 ∙ e in omega arith in
    let P : ℕ → Type 0 = λ q. IsChain links (get_or links q 0) ms in
    (ms, ap (λ q. q ∷ ms) same, omega (arith, c.1, same), subst P same c.2)

-- the first node of a list is taken out
pub IsLists-pop : (links heads : List ℕ) (ls : List (List ℕ)) (l n : ℕ) (rest : List ℕ) → IsLists links heads ls → l < length heads
    → get_or ls l [] ≡ n ∷ rest → IsChain links (get_or links n 0) rest → IsLists links (set heads l (get_or links n 0)) (set ls l rest)
unfolding IsDistinct
IsLists-pop links heads ls l n rest s here is c = record {
  long = length-set ls l rest ∙ (s.long ∙ sym (length-set heads l (get_or links n 0)));
  chained = λ k h. elim (cases_eq k l) [
    | inl e ↦
        let Q : ℕ → Type 0 = λ i. IsChain links (get_or (set heads l (get_or links n 0)) i 0) (get_or (set ls l rest) i []) in
        subst Q (sym e) (rw (get_or-set_same heads l (get_or links n 0) 0 here, get_or-set_same ls l rest [] (omega (arith, here, s.long))) c)
    | inr ne ↦ rw (get_or-set_other heads l k (get_or links n 0) 0 ne, get_or-set_other ls l k rest [] ne) (s.chained k (in_heads k h))
  ];
  once = λ k h. elim (cases_eq k l) [
    | inl e ↦
        let Q : ℕ → Type 0 = λ i. IsDistinct eqb (get_or (set ls l rest) i []) in
        let D : List ℕ → Type 0 = λ ns. IsDistinct eqb ns in
        let d : IsDistinct eqb (n ∷ rest) = subst D is (s.once l here) in
        subst Q (sym e) (subst D (sym (get_or-set_same ls l rest [] (omega (arith, here, s.long)))) d.1)
    | inr ne ↦ let D : List ℕ → Type 0 = λ ns. IsDistinct eqb ns in subst D (sym (get_or-set_other ls l k rest [] ne)) (s.once k (in_heads k h))
  ];
  apart = λ j k m a b x y. s.apart j k m (in_heads j a) (in_heads k b) (member j m x) (member k m y);
}
  where
    in_heads : (k : ℕ) → k < length (set heads l (get_or links n 0)) → k < length heads
    in_heads k h = omega (arith, h, length-set heads l (get_or links n 0))

    member : (j m : ℕ) → is_set (get_or (set ls l rest) j []) m ≡ true → is_set (get_or ls j []) m ≡ true
    member j m x = elim (cases_eq j l) [
      | inl e ↦
          let at_l : get_or (set ls l rest) j [] ≡ rest = ap (λ i. get_or (set ls l rest) i []) e ∙ get_or-set_same ls l rest []
          (omega (arith, here, s.long)) in
          ap (λ i. is_set (get_or ls i []) m) e ∙ (ap (λ ns. is_set ns m) is ∙ is_set_later n rest m (ap (λ ns. is_set ns m) (sym at_l) ∙ x))
      | inr ne ↦ ap (λ ns. is_set ns m) (sym (get_or-set_other ls l j rest [] ne)) ∙ x
    ]

-- and then it is in no list
pub free_popped : (links heads : List ℕ) (ls : List (List ℕ)) (l n : ℕ) (rest : List ℕ) → IsLists links heads ls → l < length heads
    → get_or ls l [] ≡ n ∷ rest → IsFree (set ls l rest) n
unfolding IsDistinct
free_popped links heads ls l n rest s here is k = elim (cases_eq k l) [
  | inl e ↦
      let D : List ℕ → Type 0 = λ ns. IsDistinct eqb ns in
      let d : IsDistinct eqb (n ∷ rest) = subst D is (s.once l here) in
      let at_l : get_or (set ls l rest) k [] ≡ rest = ap (λ i. get_or (set ls l rest) i []) e ∙ get_or-set_same ls l rest [] (omega (arith, here, s.long)) in
      ap (λ ns. is_set ns n) at_l ∙ fresh_head n rest d.0
  | inr ne ↦ elim (cases_lt k (length heads)) [
    | inl lt ↦ false_from_ne_true _ (λ t. ne (s.apart k l n lt here (ap (λ ns. is_set ns n) (sym (get_or-set_other ls l k rest [] ne)) ∙ t)
        (ap (λ ns. is_set ns n) is ∙ is_set_first n rest)))
    | inr ge ↦ ap (λ ns. is_set ns n) (get_or_past (set ls l rest) k [] (omega (arith, ge, s.long, length-set ls l rest))) ∙ is_set-nil n
  ]
]

-- an empty list becomes another one, which is empty then
pub IsLists-move : (links heads : List ℕ) (ls : List (List ℕ)) (from to : ℕ) → IsLists links heads ls → from < length heads → to < length heads
    → get_or ls to [] ≡ [] → IsLists links (set (set heads to (get_or heads from 0)) from 0) (set (set ls to (get_or ls from [])) from [])
unfolding IsDistinct
IsLists-move links heads ls from to s here there empty = record {
  long = length-set (set ls to (get_or ls from [])) from [] ∙ (length-set ls to (get_or ls from [])
      ∙ (s.long ∙ sym (length-set (set heads to (get_or heads from 0)) from 0 ∙ length-set heads to (get_or heads from 0))));
  chained = λ k h. elim (cases_eq k from) [
    | inl e ↦ let Q : ℕ → Type 0 = λ i. IsChain links (get_or (set (set heads to (get_or heads from 0)) from 0) i 0)
        (get_or (set (set ls to (get_or ls from [])) from []) i []) in
        subst Q (sym e) (rw (
          get_or-set_same (set heads to (get_or heads from 0)) from 0 0
              (omega (arith, here, length-set heads to (get_or heads from 0))),
          list_from,
        ) refl)
    | inr ne ↦ elim (cases_eq k to) [
      | inl e ↦ rw (
        get_or-set_other (set heads to (get_or heads from 0)) from k 0 0 ne,
        list_other k ne,
        e,
        get_or-set_same heads to
            (get_or heads from 0) 0 there,
        get_or-set_same ls to (get_or ls from []) [] (omega (arith, there, s.long)),
      ) (s.chained from here)
      | inr far ↦ rw (
        get_or-set_other (set heads to (get_or heads from 0)) from k 0 0 ne,
        list_other k ne,
        get_or-set_other heads to k
            (get_or heads from 0) 0 far,
        get_or-set_other ls to k (get_or ls from []) [] far,
      ) (s.chained k (in_heads k h))
    ]
  ];
  once = λ k h. let D : List ℕ → Type 0 = λ ns. IsDistinct eqb ns in elim (cases_eq k from) [
    | inl e ↦ let Q : ℕ → Type 0 = λ i. D (get_or (set (set ls to (get_or ls from [])) from []) i []) in subst Q (sym e) (subst D (sym list_from) tt)
    | inr ne ↦ elim (cases_eq k to) [
      | inl e ↦ subst D (sym (list_other k ne ∙ (ap (λ i. get_or (set ls to (get_or ls from [])) i []) e
          ∙ get_or-set_same ls to (get_or ls from []) [] (omega (arith, there, s.long))))) (s.once from here)
      | inr far ↦ subst D (sym (list_other k ne ∙ get_or-set_other ls to k (get_or ls from []) [] far)) (s.once k (in_heads k h))
    ]
  ];
  apart = λ j k m a b x y. elim (member j m x) [
    | inl p ↦ elim (member k m y) [
      | inl q ↦ p.0 ∙ sym q.0
      | inr q ↦ absurd (q.0 (s.apart k from m (in_heads k b) here q.1 p.1))
    ]
    | inr p ↦ elim (member k m y) [
      | inl q ↦ absurd (p.0 (s.apart j from m (in_heads j a) here p.1 q.1))
      | inr q ↦ s.apart j k m (in_heads j a) (in_heads k b) p.1 q.1
    ]
  ];
}
  where
    in_heads : (k : ℕ) → k < length (set (set heads to (get_or heads from 0)) from 0) → k < length heads
    in_heads k h = omega (arith, h, length-set (set heads to (get_or heads from 0)) from 0, length-set heads to (get_or heads from 0))

    list_from : get_or (set (set ls to (get_or ls from [])) from []) from [] ≡ []
    list_from = get_or-set_same (set ls to (get_or ls from [])) from [] [] (omega (arith, here, s.long, length-set ls to (get_or ls from [])))

    list_other : (k : ℕ) → (k ≡ from → ⊥) → get_or (set (set ls to (get_or ls from [])) from []) k [] ≡ get_or (set ls to (get_or ls from [])) k []
    list_other k ne = get_or-set_other (set ls to (get_or ls from [])) from k [] [] ne

    member : (k m : ℕ) → is_set (get_or (set (set ls to (get_or ls from [])) from []) k []) m ≡ true
        → ((k ≡ to) × (is_set (get_or ls from []) m ≡ true)) ⊎ ((k ≡ from → ⊥) × (is_set (get_or ls k []) m ≡ true))
    member k m x = elim (cases_eq k from) [
      | inl e ↦ absurd (false≢true (sym (is_set-nil m) ∙ (ap (λ ns. is_set ns m)
          (sym (ap (λ i. get_or (set (set ls to (get_or ls from [])) from []) i []) e ∙ list_from)) ∙ x)))
      | inr ne ↦ elim (cases_eq k to) [
        | inl e ↦ inl (
          e,
          ap (λ ns. is_set ns m) (sym (list_other k ne
              ∙ (ap (λ i. get_or (set ls to (get_or ls from [])) i []) e ∙ get_or-set_same ls to (get_or ls from []) []
              (omega (arith, there, s.long))))) ∙ x,
        )
        | inr far ↦ inr (ne, ap (λ ns. is_set ns m) (sym (list_other k ne ∙ get_or-set_other ls to k (get_or ls from []) [] far)) ∙ x)
      ]
    ]

at_list : (links heads : List ℕ) (l : ℕ) → l < length heads → list_at (lists_of links heads) l ≡ walk links (length links) (get_or heads l 0)
at_list links heads l h = walked links heads l h

pub pushed : (links heads : List ℕ) (l n : ℕ) → IsLinked links heads → l < length heads → n < length links → IsFree (lists_of links heads) n
    → IsLinked (set links n (get_or heads l 0)) (set heads l (n + 1))
    × (lists_of (set links n (get_or heads l 0)) (set heads l (n + 1)) ≡ set (lists_of links heads) l (n ∷ list_at (lists_of links heads) l))
pushed links heads l n w here node free =
    let P : ℕ → Type 0 = λ q. IsLinked (set links n (get_or heads l 0)) (set heads l q)
    × (lists_of (set links n (get_or heads l 0)) (set heads l q) ≡ set (lists_of links heads) l (n ∷ list_at (lists_of links heads) l)) in
    let next : suc n ≡ n + 1 = omega arith in
    subst P next (closed (set links n (get_or heads l 0)) (set heads l (suc n)) (set (lists_of links heads) l (n ∷ get_or (lists_of links heads) l []))
    (IsLists-push links heads (lists_of links heads) l n (opened links heads w) here node free))

pub moved : (links heads : List ℕ) (from to : ℕ) → IsLinked links heads → from < length heads → to < length heads → list_at (lists_of links heads) to ≡ []
    → IsLinked links (set (set heads to (get_or heads from 0)) from 0)
    × (lists_of links (set (set heads to (get_or heads from 0)) from 0) ≡ set
    (set (lists_of links heads) to (list_at (lists_of links heads) from)) from [])
moved links heads from to w here there empty =
    closed links (set (set heads to (get_or heads from 0)) from 0) (set (set (lists_of links heads) to (get_or (lists_of links heads) from [])) from [])
    (IsLists-move links heads (lists_of links heads) from to (opened links heads w) here there empty)

-- a head of 0 is an empty list
pub emptied : (links heads : List ℕ) (l : ℕ) → IsLinked links heads → l < length heads → get_or heads l 0 ≡ 0 → list_at (lists_of links heads) l ≡ []
emptied links heads l w here e =
    let s = opened links heads w in
    none (get_or (lists_of links heads) l []) (s.chained l here)
  where
    none : (ns : List ℕ) → IsChain links (get_or heads l 0) ns → ns ≡ []
    none [] c = refl
    none (m ∷ ms) c = absurd (let z = sym e ∙ c.0 in omega arith)

-- what is done by taking out the first node
pub record IsPopped (links heads : List ℕ) (l n : ℕ) : Type 0 where
  pub node : n < length links
  pub linked : IsLinked links (set heads l (get_or links n 0))
  pub free : IsFree (lists_of links (set heads l (get_or links n 0))) n
  pub rest : (ns : List ℕ) × (list_at (lists_of links heads) l ≡ n ∷ ns) × (lists_of links (set heads l (get_or links n 0)) ≡ set (lists_of links heads) l ns)

pub popped : (links heads : List ℕ) (l n : ℕ) → IsLinked links heads → l < length heads → get_or heads l 0 ≡ suc n → IsPopped links heads l n
popped links heads l n w here e =
    let s = opened links heads w in
    let p = chain_parts links (get_or (lists_of links heads) l []) (get_or heads l 0) n (s.chained l here) e in
    let made = closed links (set heads l (get_or links n 0)) (set (lists_of links heads) l p.0)
    (IsLists-pop links heads (lists_of links heads) l n p.0 s here p.1 p.3) in
    let P : List (List ℕ) → Type 0 = λ ls. IsFree ls n in
    record {
      node = p.2;
      linked = made.0;
      free = subst P (sym made.1) (free_popped links heads (lists_of links heads) l n p.0 s here p.1);
      rest = (p.0, p.1, made.1);
    }
