-- The order that is told is right, and the loop is one.
use Rattle.std.proofs.Common.{◌≡◌, ℕ, zero, suc, ◌<◌, ◌≤◌, Bool, true, false, List, [], ◌∷◌, ◌++◌, length, set, get_or, cond, refl, ap, subst, sym}
use Rattle.std.proofs.Common.{◌∙◌, arith, inl, inr, get_or-set_other, get_or-set_same}
use Rattle.std.specs.Prelude.{Contains, Result, Ok, Err, nat_eq, nat_le, not, count_by, replicate}
use Rattle.std.specs.List.{list_any, range_with_len}
use Rattle.std.proofs.lemmas.Bool.{cases_Bool, cases_eq, cases_lt, both_ways, or_cases, leb-true, true_from_ne_false, false_from_ne_true}
use Rattle.std.proofs.lemmas.List.Sums.{count_by-le-length}
use Rattle.sdcv_base.proofs.Filling.{get_or-filled}
use Rattle.std.proofs.lemmas.List.{length-replicate}
use Rattle.std.proofs.lemmas.List.Elements.{Contains-append_right}
use Rattle.sdcv_base.specs.Steps.{◌>>=◌, after_all}
use Rattle.graph_order.specs.Needs.{needs_of, LeadsTo, Go_on, IsOnCycle}
use Rattle.graph_order.specs.Orders.{visited, order_of, is_passed, IsRightOrder}
use Rattle.graph_order.specs.Visits.{IsVisiting, AreMarked}
use Rattle.graph_order.proofs.Acyclic.{hit_at}
use Rattle.graph_order.proofs.Marked.{at_contains, contains_one, contains_cases, fewer}
use Rattle.graph_order.proofs.Visiting.{leads_down, visit_loop, visit_push, visit_pop, visit_none, visit_all}
use Rattle.graph_order.proofs.Visited.{any_from, from_any, visited_passed, visited_loop, visited_new}
use Rattle.graph_order.proofs.Resumed.{past_passed, done_passed}
use Rattle.graph_order.proofs.Rooted.{among}

-- where a search stands once all these places are in the order
record After (needs : List (List ℕ)) (path : List ℕ) (unseen : ℕ) (done : List Bool) (xs order : List ℕ) : Type 0 where
  seen : List Bool
  now : List Bool
  visiting : IsVisiting needs path seen now order
  fewer : count_by not seen ≤ unseen
  grows : (k : ℕ) → get_or done k false ≡ true → get_or now k false ≡ true
  all : (k : ℕ) → Contains xs k → k < length needs → get_or now k false ≡ true

-- what an answer tells
abbrev Told : List (List ℕ) → List ℕ → ℕ → List Bool → List ℕ → Result (List ℕ) ℕ → Type 0
Told needs path unseen done xs (Ok order) = After needs path unseen done xs order
Told needs path unseen done xs (Err place) = IsOnCycle needs place

-- the place on top of the path needs this one
abbrev Asked : List (List ℕ) → List ℕ → ℕ → Type 0
Asked needs [] place = Unit {0}
Asked needs (k ∷ rest) place = Contains (needs_of needs k) place

-- a look at any place tells
abbrev LooksTell : ℕ → List (List ℕ) → Type 0
LooksTell n needs = (path order : List ℕ) (place : ℕ) (seen done : List Bool) → IsVisiting needs path seen done order → Asked needs path place
    → count_by not seen < n → Told needs path (count_by not seen) done (place ∷ []) (visited n needs path order place)

-- what the rest of a list tells, the whole list tells
told_more : (needs : List (List ℕ)) (path : List ℕ) (few many : ℕ) (was done : List Bool) (x : ℕ) (xs : List ℕ) (r : Result (List ℕ) ℕ) → few ≤ many
    → ((k : ℕ) → get_or was k false ≡ true → get_or done k false ≡ true) → (x < length needs → get_or done x false ≡ true)
    → Told needs path few done xs r → Told needs path many was (x ∷ xs) r
told_more needs path few many was done x xs (Ok order) less grew here told = record {
  seen = told.seen;
  now = told.now;
  visiting = told.visiting;
  fewer = omega (arith, told.fewer);
  grows = λ k hit. told.grows k (grew k hit);
  all = λ k has lt. elim (contains_cases x xs k has) [
    | inl same ↦ subst (λ (y : ℕ). get_or told.now y false ≡ true) same (told.grows x (here (subst (λ (y : ℕ). y < length needs) (sym same) lt)))
    | inr later ↦ told.all k later lt
  ];
}
told_more needs path few many was done x xs (Err place) less grew here told = told

-- the first place, and then the rest
told_join : (needs : List (List ℕ)) (path : List ℕ) (unseen : ℕ) (done : List Bool) (x : ℕ) (xs : List ℕ) (r : Result (List ℕ) ℕ)
    (f : List ℕ → Result (List ℕ) ℕ) → Told needs path unseen done (x ∷ []) r
    → ((order : List ℕ) (a : After needs path unseen done (x ∷ []) order) → Told needs path (count_by not a.seen) a.now xs (f order))
    → Told needs path unseen done (x ∷ xs) (r >>= f)
told_join needs path unseen done x xs (Ok order) f first later =
    told_more needs path (count_by not first.seen) unseen done first.now x xs (f order) first.fewer first.grows
    (λ lt. first.all x (0, omega arith, refl) lt) (later order first)
told_join needs path unseen done x xs (Err place) f first later = first

-- looks at places in turn tell
list_tells : (n : ℕ) (needs : List (List ℕ)) → LooksTell n needs → (path xs order : List ℕ) (seen done : List Bool) → IsVisiting needs path seen done order
    → ((k : ℕ) → Contains xs k → Asked needs path k) → count_by not seen < n
    → Told needs path (count_by not seen) done xs (after_all (visited n needs path) order xs)
unfolding after_all
list_tells n needs looks path [] order seen done v asked less = record {
  seen = seen;
  now = done;
  visiting = v;
  fewer = omega arith;
  grows = λ k hit. hit;
  all = λ k has. absurd (omega (arith, has.1));
}
list_tells n needs looks path (x ∷ xs) order seen done v asked less =
    told_join needs path (count_by not seen) done x xs (visited n needs path order x) (λ more. after_all (visited n needs path) more xs)
    (looks path order x seen done v (asked x (0, omega arith, refl)) less)
    (λ more a. list_tells n needs looks path xs more a.seen a.now a.visiting (λ k has. asked k (Contains-append_right (x ∷ []) xs k has))
    (omega (arith, a.fewer)))

-- a place that is passed is in the order
passed_done : (needs : List (List ℕ)) (order : List ℕ) (done : List Bool) (p : ℕ) → length done ≡ length needs → AreMarked order done
    → is_passed needs order p ≡ true → p < length needs → get_or done p false ≡ true
passed_done needs order done p len marked hit lt = true_from_ne_false (get_or done p false) (λ miss.
    elim (or_cases (nat_le (length needs) p) (list_any (nat_eq p) order) hit) [
      | inl past ↦ let high = leb-true (length needs) p past in omega arith
      | inr old ↦
          let none = marked p (omega arith) ∙ ap (λ (b : Bool). cond {A = ℕ} b 1 0) miss in
          let (i, at) = at_contains order p (from_any order p old) in
          omega (arith, none, hit_at p order i at)
    ])

-- what waits leads to all of the path
leads_all : (needs : List (List ℕ)) (path : List ℕ) (p : ℕ) (seen done : List Bool) (order : List ℕ) → IsVisiting needs path seen done order
    → Asked needs path p → (j : ℕ) → Contains path j → LeadsTo needs p j
leads_all needs [] p seen done order v asked j has = absurd (omega (arith, has.1))
leads_all needs (k ∷ rest) p seen done order v asked j has = Go_on p k j asked (leads_down needs k j rest v.chained has)

-- what stands on the path and is needed by its top is on a cycle
met_loops : (needs : List (List ℕ)) (path : List ℕ) (p : ℕ) (seen done : List Bool) (order : List ℕ) → IsVisiting needs path seen done order
    → Asked needs path p → Contains path p → IsOnCycle needs p
met_loops needs [] p seen done order v asked has = absurd (omega (arith, has.1))
met_loops needs (k ∷ rest) p seen done order v asked has =
    let (within, met, miss) = v.met p has in
    visit_loop needs k p rest seen done order v (record { asked = asked; within = within; undone = miss }) met

-- the place after all that it needs
told_pop : (needs : List (List ℕ)) (path : List ℕ) (few many p : ℕ) (done : List Bool) (r : Result (List ℕ) ℕ) → few ≤ many → p < length needs
    → Told needs (p ∷ path) few done (needs_of needs p) r → Told needs path many done (p ∷ []) (r >>= λ found. Ok (found ++ p ∷ []))
told_pop needs path few many p done (Err place) less lt told = told
told_pop needs path few many p done (Ok found) less lt told =
    let within : p < length told.now = omega (arith, told.visiting.done_len) in
    let here : get_or (set told.now p true) p false ≡ true = get_or-set_same told.now p true false within in
    record {
      seen = told.seen;
      now = set told.now p true;
      visiting = visit_pop needs p path told.seen told.now found told.visiting told.all;
      fewer = omega (arith, told.fewer);
      grows = λ k hit. elim (cases_eq k p) [
        | inl same ↦ subst (λ (y : ℕ). get_or (set told.now p true) y false ≡ true) (sym same) here
        | inr apart ↦ get_or-set_other told.now p k true false apart ∙ told.grows k hit
      ];
      all = λ k has k_lt. subst (λ (y : ℕ). get_or (set told.now p true) y false ≡ true) (contains_one p k has) here;
    }

-- a place that wasn't met is put on the path
told_new : (n : ℕ) (needs : List (List ℕ)) (path order : List ℕ) (p : ℕ) (seen done : List Bool) → LooksTell n needs → IsVisiting needs path seen done order
    → Asked needs path p → count_by not seen < suc n → p < length needs → is_passed needs order p ≡ false → list_any (nat_eq p) path ≡ false
    → Told needs path (count_by not seen) done (p ∷ []) (visited (suc n) needs path order p)
told_new n needs path order p seen done looks v asked less lt miss fresh =
    let undone : get_or done p false ≡ true → ⊥ = λ hit. both_ways (is_passed needs order p) miss
    (done_passed needs order done p (omega (arith, v.done_len)) v.marked hit) in
    let unmet : get_or seen p false ≡ false = false_from_ne_true (get_or seen p false) (λ met.
    both_ways (list_any (nat_eq p) path) fresh (any_from path p (v.waits p lt met (false_from_ne_true (get_or done p false) undone)))) in
    let next = visit_push needs path seen done order p v lt unmet (leads_all needs path p seen done order v asked) in
    let one = fewer seen p (omega (arith, v.seen_len)) unmet in
    let inner = list_tells n needs looks (p ∷ path) (needs_of needs p) order (set seen p true) done next (λ k has. has) (omega arith) in
    rw (visited_new n needs path order p miss fresh)
    (told_pop needs path (count_by not (set seen p true)) (count_by not seen) p done (after_all (visited n needs (p ∷ path)) order (needs_of needs p))
    (omega arith) lt inner)

-- each look tells
visited_tells : (n : ℕ) (needs : List (List ℕ)) → LooksTell n needs
visited_tells zero needs = λ path order p seen done v asked less. absurd (omega arith)
visited_tells (suc n) needs = λ path order p seen done v asked less. elim (cases_Bool (is_passed needs order p)) [
  | inl hit ↦ rw (visited_passed (suc n) needs path order p hit) (record {
    seen = seen;
    now = done;
    visiting = v;
    fewer = omega arith;
    grows = λ k was. was;
    all = λ k has lt. let same = contains_one p k has in
        subst (λ (y : ℕ). get_or done y false ≡ true) same
        (passed_done needs order done p v.done_len v.marked hit (subst (λ (y : ℕ). y < length needs) (sym same) lt));
  })
  | inr miss ↦ elim (cases_Bool (list_any (nat_eq p) path)) [
    | inl met ↦ rw (visited_loop n needs path order p miss met) (met_loops needs path p seen done order v asked (from_any path p met))
    | inr fresh ↦ elim (cases_lt p (length needs)) [
      | inl lt ↦ told_new n needs path order p seen done (visited_tells n needs) v asked less lt miss fresh
      | inr past ↦ absurd (both_ways (is_passed needs order p) miss (past_passed needs order p past))
    ]
  ]
]

-- the search from all roots tells
order_tells : (needs : List (List ℕ)) → Told needs [] (count_by not (replicate (length needs) false)) (replicate (length needs) false)
    (range_with_len 0 (length needs)) (order_of needs)
unfolding order_of
order_tells needs =
    let none : List Bool = replicate (length needs) false in
    let len : length none ≡ length needs = length-replicate (length needs) false in
    list_tells (suc (length needs)) needs (visited_tells (suc (length needs)) needs) [] (range_with_len 0 (length needs)) [] none none
    (visit_none needs none none len len (λ k. get_or-filled (length needs) k false) (λ k. get_or-filled (length needs) k false)) (λ k has. tt)
    (omega (arith, len, count_by-le-length not none))

-- the order is right
pub order_right : (needs : List (List ℕ)) (order : List ℕ) → order_of needs ≡ Ok order → IsRightOrder needs order
order_right needs order is =
    let none : List Bool = replicate (length needs) false in
    let told : After needs [] (count_by not none) none (range_with_len 0 (length needs)) order =
    subst (λ (r : Result (List ℕ) ℕ). Told needs [] (count_by not none) none (range_with_len 0 (length needs)) r) is (order_tells needs) in
    visit_all needs told.seen told.now order told.visiting (λ k lt. told.visiting.done_seen k (told.all k (among (length needs) k lt) lt))

-- the loop is one
pub order_loops : (needs : List (List ℕ)) (place : ℕ) → order_of needs ≡ Err place → IsOnCycle needs place
order_loops needs place is =
    let none : List Bool = replicate (length needs) false in
    subst (λ (r : Result (List ℕ) ℕ). Told needs [] (count_by not none) none (range_with_len 0 (length needs)) r) is (order_tells needs)
