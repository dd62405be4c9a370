-- What the stack of a search still gives.
use Rattle.std.proofs.Common.{◌≡◌, ℕ, zero, suc, ◌+◌, ◌<◌, ◌≤◌, Bool, true, false, List, [], ◌∷◌, ◌++◌, length, All, get_or, set, cond}
use Rattle.std.proofs.Common.{refl, subst, ap, sym, ◌∙◌, arith, inl, inr}
use Rattle.std.specs.Prelude.{Result, Ok, Err, Some, nat_eq, nat_le, nat_lt, not, find, count_by, slice_get}
use Rattle.std.specs.List.{list_any}
use Rattle.std.proofs.lemmas.Bool.{cases_Bool, cases_lt, le-leb, lt-leb, or_left, or_right, or_from, both_ways, lt-ltb}
use Rattle.std.proofs.lemmas.List.{get_or_default}
use Rattle.std.proofs.lemmas.List.Sums.{count_by-le-length}
use Rattle.sdcv_base.specs.Steps.{◌>>=◌, after_all}
use Rattle.graph_order.specs.Needs.{needs_of}
use Rattle.graph_order.specs.Orders.{visited, is_passed}
use Rattle.graph_order.specs.Visits.{resume, StillGives, IsVisiting, Waits, IsFree, AreMarked, is_waiting}
use Rattle.graph_order.proofs.Acyclic.{hit_at}
use Rattle.graph_order.proofs.Marked.{at_contains, counted_contains, fewer}
use Rattle.graph_order.proofs.Visiting.{not_done}
use Rattle.graph_order.proofs.Visited.{any_from, none_from, steps_regroup, steps_same, grows_on, grows_one, last_passed}
use Rattle.graph_order.proofs.Visited.{all_grow, visited_loop, visited_new, passed_over, all_passed, needs_keep}

-- a list of one place that is passed
one_passed : (needs : List (List ℕ)) (order : List ℕ) (p : ℕ) → is_passed needs order p ≡ true → (i d : ℕ) → i < length (p ∷ [])
    → is_passed needs order (get_or (p ∷ []) i d) ≡ true
one_passed needs order p hit zero d lt = hit
one_passed needs order p hit (suc i) d lt = absurd (omega arith)

module _ (needs : List (List ℕ)) (k : ℕ) (rest order before : List ℕ) (need : ℕ) (after : List ℕ) (split : needs_of needs k ≡ before ++ need ∷ after)
    (passed : All (λ p. is_passed needs order p ≡ true) before) (miss : is_passed needs order need ≡ false) where
  -- the search is at the first need that isn't passed
  at_need : (n : ℕ) → after_all (visited n needs (k ∷ rest)) order (needs_of needs k) ≡ after_all (visited n needs (k ∷ rest)) order (need ∷ after)
  at_need n = ap (after_all (visited n needs (k ∷ rest)) order) split ∙ passed_over n needs (k ∷ rest) order before (need ∷ after) passed

  -- it is a loop if it stands on the stack
  pub resume_loop : (n : ℕ) → list_any (nat_eq need) (k ∷ rest) ≡ true → resume needs (suc n) (k ∷ rest) order ≡ Err need
  unfolding after_all
  resume_loop n met =
      let loop : visited (suc n) needs (k ∷ rest) order need ≡ Err need = visited_loop n needs (k ∷ rest) order need miss met in
      let is : after_all (visited (suc n) needs (k ∷ rest)) order (needs_of needs k) ≡ Err need = at_need (suc n) ∙ rw loop refl in
      rw is refl

  -- else it is put on the stack, and a new look at the needs of the place below is the same
  pub resume_push : (n : ℕ) → list_any (nat_eq need) (k ∷ rest) ≡ false → resume needs (suc n) (k ∷ rest) order ≡ resume needs n (need ∷ k ∷ rest) order
  unfolding after_all
  resume_push n fresh =
      let inner : Result (List ℕ) ℕ = after_all (visited n needs (need ∷ k ∷ rest)) order (needs_of needs need) in
      let then : List ℕ → Result (List ℕ) ℕ = λ o. resume needs (suc (suc n)) rest (o ++ k ∷ []) in
      let looks : List ℕ → List ℕ → Result (List ℕ) ℕ = λ o xs. after_all (visited (suc n) needs (k ∷ rest)) o xs in
      let new : visited (suc n) needs (k ∷ rest) order need ≡ (inner >>= λ o. Ok (o ++ need ∷ [])) = visited_new n needs (k ∷ rest) order need miss fresh in
      let begins : looks order (needs_of needs k) ≡ (inner >>= λ o. looks (o ++ need ∷ []) after) =
      at_need (suc n) ∙ ap (λ (r : Result (List ℕ) ℕ). r >>= λ m. looks m after) new ∙ steps_regroup inner (λ o. Ok (o ++ need ∷ [])) (λ m. looks m after) in
      let again : (o : List ℕ) → inner ≡ Ok o → (looks (o ++ need ∷ []) after >>= then) ≡ (looks (o ++ need ∷ []) (needs_of needs k) >>= then) = λ o is.
      let more = all_grow needs order (o ++ need ∷ []) before
      (grows_on order o (o ++ need ∷ []) (needs_keep n needs (need ∷ k ∷ rest) order (needs_of needs need) o is) (grows_one o need)) passed in
      let here : looks (o ++ need ∷ []) (need ∷ after) ≡ looks (o ++ need ∷ []) after =
      passed_over (suc n) needs (k ∷ rest) (o ++ need ∷ []) (need ∷ []) after
      (one_passed needs (o ++ need ∷ []) need (last_passed needs o need)) in
      ap (λ (r : Result (List ℕ) ℕ). r >>= then) (sym (ap (looks (o ++ need ∷ [])) split
      ∙ passed_over (suc n) needs (k ∷ rest) (o ++ need ∷ []) before (need ∷ after) more ∙ here)) in
      ap (λ (r : Result (List ℕ) ℕ). r >>= then) begins ∙ steps_regroup inner (λ o. looks (o ++ need ∷ []) after) then
      ∙ steps_same inner (λ o. looks (o ++ need ∷ []) after >>= then) (λ o. looks (o ++ need ∷ []) (needs_of needs k) >>= then) again

-- what is in the order is passed
pub done_passed : (needs : List (List ℕ)) (order : List ℕ) (done : List Bool) (p : ℕ) → p < length done → AreMarked order done → get_or done p false ≡ true
    → is_passed needs order p ≡ true
done_passed needs order done p within marked hit =
    let once = marked p within ∙ ap (λ (b : Bool). cond {A = ℕ} b 1 0) hit in
    or_right (nat_le (length needs) p) (list_any (nat_eq p) order) (any_from order p (counted_contains p order (omega (arith, once))))

-- what is no place is passed
pub past_passed : (needs : List (List ℕ)) (order : List ℕ) (p : ℕ) → length needs ≤ p → is_passed needs order p ≡ true
past_passed needs order p past = or_left (nat_le (length needs) p) (list_any (nat_eq p) order) (le-leb (length needs) p past)

-- what doesn't wait is passed
idle_passed : (needs : List (List ℕ)) (order : List ℕ) (done : List Bool) (p : ℕ) → length done ≡ length needs → AreMarked order done
    → is_waiting done p ≡ false → is_passed needs order p ≡ true
idle_passed needs order done p len marked idle = elim (cases_lt p (length done)) [
  | inr past ↦ past_passed needs order p (omega arith)
  | inl within ↦ elim (cases_Bool (get_or done p false)) [
    | inl hit ↦ done_passed needs order done p within marked hit
    | inr miss ↦ let low : nat_lt p (length done) ≡ true = lt-ltb p (length done) within in
        absurd (both_ways (is_waiting done p) idle (rw (low, miss) refl))
  ]
]

-- a place that isn't in the order is not passed
pub not_passed : (needs : List (List ℕ)) (order : List ℕ) (done : List Bool) (p : ℕ) → length done ≡ length needs → AreMarked order done
    → p < length needs → get_or done p false ≡ false → is_passed needs order p ≡ false
not_passed needs order done p len marked within miss =
    let none = marked p (omega arith) ∙ ap (λ (b : Bool). cond {A = ℕ} b 1 0) miss in
    or_from (nat_le (length needs) p) (list_any (nat_eq p) order) (lt-leb (length needs) p within)
    (none_from order p (λ has. let (i, at) = at_contains order p has in let hit = hit_at p order i at in omega (arith, none)))

-- one more of which it holds
all_more : (P : ℕ → Type 0) (x : ℕ) (xs : List ℕ) → P x → All P xs → (i d : ℕ) → i < length (x ∷ xs) → P (get_or (x ∷ xs) i d)
all_more P x xs here rest zero d lt = here
all_more P x xs here rest (suc i) d lt = rest i d (omega arith)

-- the first item that passes a test, with those before it
find_split : (test : ℕ → Bool) (xs : List ℕ) (x : ℕ) → find test xs ≡ Some x
    → (before : List ℕ) × (after : List ℕ) × (xs ≡ before ++ x ∷ after) × All (λ y. test y ≡ false) before
find_split test [] x is = cc
find_split test (y ∷ ys) x is = elim (cases_Bool (test y)) [
  | inl hit ↦ let first : Some y ≡ Some x = rw hit at is in let same : y ≡ x = cc in
      ([], ys, ap (λ (z : ℕ). z ∷ ys) same, λ i d lt. absurd (omega arith))
  | inr miss ↦ let later : find test ys ≡ Some x = rw miss at is in
      let (before, after, split, idle) = find_split test ys x later in
      (y ∷ before, after, ap (λ (zs : List ℕ). y ∷ zs) split, all_more (λ (z : ℕ). test z ≡ false) y before miss idle)
]

-- a search begins
pub gives_begin : (needs : List (List ℕ)) (seen done : List Bool) (order : List ℕ) (root : ℕ) → IsVisiting needs [] seen done order → root < length needs
    → get_or seen root false ≡ false → StillGives needs (root ∷ []) order (visited (suc (length needs)) needs [] order root)
gives_begin needs seen done order root v within fresh =
    let miss = not_done (get_or done root false) (get_or seen root false) (v.done_seen root) fresh in
    record {
      left = length needs;
      deep = omega arith;
      gives = sym (visited_new (length needs) needs [] order root (not_passed needs order done root v.done_len v.marked within miss) refl);
    }

-- what was not met is as much as the stack may grow
pub room_begin : (needs : List (List ℕ)) (seen : List Bool) (root : ℕ) → length seen ≡ length needs → root < length needs → get_or seen root false ≡ false
    → count_by not (set seen root true) + 1 ≤ length needs
room_begin needs seen root len within fresh = omega (arith, fewer seen root (omega arith) fresh, count_by-le-length not seen)

pub room_push : (seen : List Bool) (need n most : ℕ) → need < length seen → get_or seen need false ≡ false → count_by not seen + n ≤ most
    → count_by not (set seen need true) + suc n ≤ most
room_push seen need n most within fresh room = omega (arith, fewer seen need within fresh)

-- a search that is at its end has this order
pub gives_end : (needs : List (List ℕ)) (stack order : List ℕ) (answer : Result (List ℕ) ℕ) → stack ≡ [] → StillGives needs stack order answer
    → answer ≡ Ok order
gives_end needs stack order answer none still =
    sym (subst (λ (s : List ℕ). resume needs still.left s order ≡ answer) none still.gives)

loop_of : (needs : List (List ℕ)) (k need : ℕ) (rest order before after : List ℕ) (answer : Result (List ℕ) ℕ) (left : ℕ) → 0 < left
    → resume needs left (k ∷ rest) order ≡ answer → needs_of needs k ≡ before ++ need ∷ after → All (λ p. is_passed needs order p ≡ true) before
    → is_passed needs order need ≡ false → list_any (nat_eq need) (k ∷ rest) ≡ true → answer ≡ Err need
loop_of needs k need rest order before after answer zero some gives split passed miss met = absurd (omega arith)
loop_of needs k need rest order before after answer (suc n) some gives split passed miss met =
    sym gives ∙ resume_loop needs k rest order before need after split passed miss n met

push_of : (needs : List (List ℕ)) (k need : ℕ) (rest order before after : List ℕ) (answer : Result (List ℕ) ℕ) (left : ℕ) → 0 < left
    → left + length (k ∷ rest) ≡ suc (length needs) → resume needs left (k ∷ rest) order ≡ answer → needs_of needs k ≡ before ++ need ∷ after
    → All (λ p. is_passed needs order p ≡ true) before → is_passed needs order need ≡ false → list_any (nat_eq need) (k ∷ rest) ≡ false
    → StillGives needs (need ∷ k ∷ rest) order answer
push_of needs k need rest order before after answer zero some deep gives split passed miss fresh = absurd (omega arith)
push_of needs k need rest order before after answer (suc n) some deep gives split passed miss fresh = record {
  left = n;
  deep = omega arith;
  gives = sym (resume_push needs k rest order before need after split passed miss n fresh) ∙ gives;
}

idle_all : (needs : List (List ℕ)) (order : List ℕ) (done : List Bool) (xs : List ℕ) → length done ≡ length needs → AreMarked order done
    → All (λ p. is_waiting done p ≡ false) xs → All (λ p. is_passed needs order p ≡ true) xs
idle_all needs order done xs len marked idle = λ i d lt. idle_passed needs order done (get_or xs i d) len marked (idle i d lt)

-- a need that stands on the stack is the answer
pub gives_loop : (needs : List (List ℕ)) (k need : ℕ) (stack : List ℕ) (seen done : List Bool) (order : List ℕ) (answer : Result (List ℕ) ℕ)
    → IsVisiting needs stack seen done order → slice_get stack 0 ≡ Some k → Waits needs done k need → get_or seen need false ≡ true
    → find (is_waiting done) (needs_of needs k) ≡ Some need → length stack ≤ length needs → StillGives needs stack order answer → answer ≡ Err need
gives_loop needs k need [] seen done order answer v top w met first room still = cc
gives_loop needs k need (x ∷ rest) seen done order answer v top w met first room still =
    let same : k ≡ x = cc in
    let (before, after, split, idle) = find_split (is_waiting done) (needs_of needs k) need first in
    loop_of needs x need rest order before after answer still.left (omega (arith, still.deep)) still.gives
    (ap (needs_of needs) (sym same) ∙ split)
    (idle_all needs order done before v.done_len v.marked idle) (not_passed needs order done need v.done_len v.marked w.within w.undone)
    (any_from (x ∷ rest) need (v.waits need w.within met w.undone))

-- a need that was not met is put on the stack
pub gives_push : (needs : List (List ℕ)) (k need : ℕ) (stack : List ℕ) (seen done : List Bool) (order : List ℕ) (answer : Result (List ℕ) ℕ)
    → IsVisiting needs stack seen done order → slice_get stack 0 ≡ Some k → Waits needs done k need → get_or seen need false ≡ false
    → find (is_waiting done) (needs_of needs k) ≡ Some need → length stack ≤ length needs → StillGives needs stack order answer
    → StillGives needs (need ∷ stack) order answer
gives_push needs k need [] seen done order answer v top w fresh first room still = cc
gives_push needs k need (x ∷ rest) seen done order answer v top w fresh first room still =
    let same : k ≡ x = cc in
    let (before, after, split, idle) = find_split (is_waiting done) (needs_of needs k) need first in
    push_of needs x need rest order before after answer still.left (omega (arith, still.deep)) still.deep still.gives
    (ap (needs_of needs) (sym same) ∙ split)
    (idle_all needs order done before v.done_len v.marked idle) (not_passed needs order done need v.done_len v.marked w.within w.undone)
    (none_from (x ∷ rest) need (λ has. both_ways (get_or seen need false) fresh (v.met need has).1))

-- all that a free place needs is passed
free_passed : (needs : List (List ℕ)) (order : List ℕ) (done : List Bool) (k : ℕ) → length done ≡ length needs → AreMarked order done → IsFree needs done k
    → All (λ p. is_passed needs order p ≡ true) (needs_of needs k)
free_passed needs order done k len marked free = λ i d lt. elim (cases_lt (get_or (needs_of needs k) i d) (length needs)) [
  | inr past ↦ past_passed needs order (get_or (needs_of needs k) i d) past
  | inl within ↦ done_passed needs order done (get_or (needs_of needs k) i d) (omega arith) marked
      (free (get_or (needs_of needs k) i d) (i, lt, get_or_default (needs_of needs k) i (get_or (needs_of needs k) i d) d lt) within)
]

-- a place that waits for nothing is put into the order
pub gives_pop : (needs : List (List ℕ)) (k : ℕ) (old new : List ℕ) (seen done : List Bool) (order : List ℕ) (answer : Result (List ℕ) ℕ)
    → IsVisiting needs old seen done order → old ≡ k ∷ new → IsFree needs done k → StillGives needs old order answer
    → StillGives needs new (order ++ k ∷ []) answer
gives_pop needs k old new seen done order answer v same free still =
    let was : StillGives needs (k ∷ new) order answer = subst (λ (s : List ℕ). StillGives needs s order answer) same still in
    let all : after_all (visited was.left needs (k ∷ new)) order (needs_of needs k) ≡ Ok order =
    all_passed was.left needs (k ∷ new) order (needs_of needs k) (free_passed needs order done k v.done_len v.marked free) in
    record {
      left = suc was.left;
      deep = omega (arith, was.deep);
      gives = rw all at was.gives;
    }
