-- What one look at a place gives.
use Rattle.std.proofs.Common.{◌≡◌, ℕ, zero, suc, true, false, List, [], ◌∷◌, ◌++◌, length, All, get_or, refl, sym, ◌∙◌, arith, inl, inr}
use Rattle.std.specs.Prelude.{Contains, Result, Ok, Err, nat_eq, nat_le}
use Rattle.std.specs.List.{list_any}
use Rattle.std.proofs.lemmas.Bool.{cases_Bool, eq-eqb, eqb-true, or_left, or_right, or_cases}
use Rattle.std.proofs.lemmas.Cmp.{nat_eq_equiv}
use Rattle.std.proofs.lemmas.List.Folds.{list_any-append}
use Rattle.std.proofs.lemmas.Map.Views.{Contains-from_any, list_any-from_Contains}
use Rattle.sdcv_base.specs.Steps.{◌>>=◌, after_all}
use Rattle.graph_order.specs.Needs.{needs_of}
use Rattle.graph_order.specs.Orders.{visited, is_passed}

-- two steps and then a third are one step and then two
pub steps_regroup : {A B C F : Type 0} (r : Result A F) (f : A → Result B F) (g : B → Result C F) → ((r >>= f) >>= g) ≡ (r >>= λ x. f x >>= g)
steps_regroup (Ok x) f g = refl
steps_regroup (Err e) f g = refl

-- steps that agree on what the first one gives agree
pub steps_same : {A B F : Type 0} (r : Result A F) (f g : A → Result B F) → ((x : A) → r ≡ Ok x → f x ≡ g x) → (r >>= f) ≡ (r >>= g)
steps_same (Ok x) f g same = same x refl
steps_same (Err e) f g same = refl

-- a member is found
pub any_from : (xs : List ℕ) (n : ℕ) → Contains xs n → list_any (nat_eq n) xs ≡ true
any_from xs n has = list_any-from_Contains {eq = nat_eq} nat_eq_equiv n xs has

-- what is found is a member
pub from_any : (xs : List ℕ) (n : ℕ) → list_any (nat_eq n) xs ≡ true → Contains xs n
from_any xs n hit = Contains-from_any {eq = nat_eq} (λ x y same. eqb-true x y same) n xs hit

-- what is no member is not found
pub none_from : (xs : List ℕ) (n : ℕ) → (Contains xs n → ⊥) → list_any (nat_eq n) xs ≡ false
none_from xs n none = elim (cases_Bool (list_any (nat_eq n) xs)) [ inl hit ↦ absurd (none (from_any xs n hit)) | inr miss ↦ miss ]

-- all that the first order passes, the second passes
pub record Grows (order more : List ℕ) : Type 0 where
  pub keeps : (n : ℕ) → list_any (nat_eq n) order ≡ true → list_any (nat_eq n) more ≡ true

pub grows_still : (order : List ℕ) → Grows order order
grows_still order = record { keeps = λ n hit. hit }

pub grows_on : (a b c : List ℕ) → Grows a b → Grows b c → Grows a c
grows_on a b c first second = record { keeps = λ n hit. second.keeps n (first.keeps n hit) }

pub grows_one : (order : List ℕ) (k : ℕ) → Grows order (order ++ k ∷ [])
grows_one order k = record {
  keeps = λ n hit. list_any-append (nat_eq n) order (k ∷ []) ∙ or_left (list_any (nat_eq n) order) (list_any (nat_eq n) (k ∷ [])) hit;
}

-- the last one is passed
pub last_passed : (needs : List (List ℕ)) (order : List ℕ) (k : ℕ) → is_passed needs (order ++ k ∷ []) k ≡ true
last_passed needs order k =
    let same : nat_eq k k ≡ true = eq-eqb k k refl in
    let hit : list_any (nat_eq k) (k ∷ []) ≡ true = or_left (nat_eq k k) false same in
    or_right (nat_le (length needs) k) (list_any (nat_eq k) (order ++ k ∷ []))
    (list_any-append (nat_eq k) order (k ∷ []) ∙ or_right (list_any (nat_eq k) order) (list_any (nat_eq k) (k ∷ [])) hit)

pub grows_passed : (needs : List (List ℕ)) (order more : List ℕ) (p : ℕ) → Grows order more → is_passed needs order p ≡ true → is_passed needs more p ≡ true
grows_passed needs order more p grows hit = elim (or_cases (nat_le (length needs) p) (list_any (nat_eq p) order) hit) [
  | inl past ↦ or_left (nat_le (length needs) p) (list_any (nat_eq p) more) past
  | inr old ↦ or_right (nat_le (length needs) p) (list_any (nat_eq p) more) (grows.keeps p old)
]

pub all_grow : (needs : List (List ℕ)) (order more xs : List ℕ) → Grows order more → All (λ p. is_passed needs order p ≡ true) xs
    → All (λ p. is_passed needs more p ≡ true) xs
all_grow needs order more xs grows hit = λ i d lt. grows_passed needs order more (get_or xs i d) grows (hit i d lt)

-- what is passed changes nothing
pub visited_passed : (n : ℕ) (needs : List (List ℕ)) (path order : List ℕ) (p : ℕ) → is_passed needs order p ≡ true → visited n needs path order p ≡ Ok order
unfolding visited
visited_passed zero needs path order p hit = refl
visited_passed (suc n) needs path order p hit = rw hit refl

-- what waits for itself is a loop
pub visited_loop : (n : ℕ) (needs : List (List ℕ)) (path order : List ℕ) (p : ℕ) → is_passed needs order p ≡ false → list_any (nat_eq p) path ≡ true
    → visited (suc n) needs path order p ≡ Err p
unfolding visited
visited_loop n needs path order p miss hit = rw (miss, hit) refl

-- what is new comes after all that it needs
pub visited_new : (n : ℕ) (needs : List (List ℕ)) (path order : List ℕ) (p : ℕ) → is_passed needs order p ≡ false → list_any (nat_eq p) path ≡ false
    → visited (suc n) needs path order p ≡ (after_all (visited n needs (p ∷ path)) order (needs_of needs p) >>= λ found. Ok (found ++ p ∷ []))
unfolding visited
visited_new n needs path order p miss fresh = rw (miss, fresh) refl

-- a search at a list of places whose first ones are passed goes on behind them
pub passed_over : (n : ℕ) (needs : List (List ℕ)) (path order xs ys : List ℕ) → All (λ p. is_passed needs order p ≡ true) xs
    → after_all (visited n needs path) order (xs ++ ys) ≡ after_all (visited n needs path) order ys
unfolding after_all
passed_over n needs path order [] ys hit = refl
passed_over n needs path order (x ∷ xs) ys hit =
    let first : visited n needs path order x ≡ Ok order = visited_passed n needs path order x (hit 0 x (omega arith)) in
    rw first (passed_over n needs path order xs ys (λ i d lt. hit (suc i) d (omega arith)))

pub all_passed : (n : ℕ) (needs : List (List ℕ)) (path order xs : List ℕ) → All (λ p. is_passed needs order p ≡ true) xs
    → after_all (visited n needs path) order xs ≡ Ok order
unfolding after_all
all_passed n needs path order [] hit = refl
all_passed n needs path order (x ∷ xs) hit =
    let first : visited n needs path order x ≡ Ok order = visited_passed n needs path order x (hit 0 x (omega arith)) in
    rw first (all_passed n needs path order xs (λ i d lt. hit (suc i) d (omega arith)))

-- each step keeps what is in the order
KeepOrder : (List ℕ → ℕ → Result (List ℕ) ℕ) → Type 0
KeepOrder adds = (order : List ℕ) (p : ℕ) (found : List ℕ) → adds order p ≡ Ok found → Grows order found

-- the next step grows too
grown : (a b c : List ℕ) (r : Result (List ℕ) ℕ) (f : List ℕ → Result (List ℕ) ℕ) → ((o : List ℕ) → r ≡ Ok o → Grows a o)
    → ((o : List ℕ) → f o ≡ Ok c → Grows o c) → (r >>= f) ≡ Ok c → Grows a c
grown a b c (Ok o) f first second is = grows_on a o c (first o refl) (second o is)
grown a b c (Err e) f first second is = cc

all_keep : (adds : List ℕ → ℕ → Result (List ℕ) ℕ) → KeepOrder adds → (xs order found : List ℕ) → after_all adds order xs ≡ Ok found → Grows order found
unfolding after_all KeepOrder
all_keep adds keep [] order found is = let same : order ≡ found = cc in rw (sym same) (grows_still order)
all_keep adds keep (x ∷ xs) order found is =
    grown order order found (adds order x) (λ more. after_all adds more xs) (λ o has. keep order x o has) (λ o has. all_keep adds keep xs o found has) is

-- no answer is given twice
pub one_answer : (r : Result (List ℕ) ℕ) (a b : List ℕ) → r ≡ Ok a → r ≡ Ok b → a ≡ b
one_answer r a b first second = cc

-- a search keeps what is in the order
pub visited_keeps : (n : ℕ) (needs : List (List ℕ)) (path order : List ℕ) (p : ℕ) (found : List ℕ) → visited n needs path order p ≡ Ok found → Grows order found
unfolding visited KeepOrder
visited_keeps zero needs path order p found is = let same : order ≡ found = cc in rw (sym same) (grows_still order)
visited_keeps (suc n) needs path order p found is = elim (cases_Bool (is_passed needs order p)) [
  | inl hit ↦
      let same : order ≡ found = one_answer (visited (suc n) needs path order p) order found (visited_passed (suc n) needs path order p hit) is in
      rw (sym same) (grows_still order)
  | inr miss ↦ elim (cases_Bool (list_any (nat_eq p) path)) [
    | inl met ↦ let loop = visited_loop n needs path order p miss met in cc
    | inr fresh ↦
        grown order order found (after_all (visited n needs (p ∷ path)) order (needs_of needs p)) (λ o. Ok (o ++ p ∷ []))
        (λ o has. all_keep (visited n needs (p ∷ path)) (λ a q b. visited_keeps n needs (p ∷ path) a q b) (needs_of needs p) order o has)
        (λ o has. let same : o ++ p ∷ [] ≡ found = one_answer (Ok (o ++ p ∷ [])) (o ++ p ∷ []) found refl has in rw (sym same) (grows_one o p))
        (sym (visited_new n needs path order p miss fresh) ∙ is)
  ]
]

pub needs_keep : (n : ℕ) (needs : List (List ℕ)) (path order xs found : List ℕ) → after_all (visited n needs path) order xs ≡ Ok found → Grows order found
unfolding KeepOrder
needs_keep n needs path order xs found is = all_keep (visited n needs path) (λ a q b. visited_keeps n needs path a q b) xs order found is
