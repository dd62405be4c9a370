-- The steps of a search through places.
use Rattle.std.proofs.Common.{◌≡◌, ◌≢◌, ℕ, ◌<◌, Bool, true, false, cond, List, [], ◌∷◌, ◌++◌, length, take, set, get_or, Some, refl, ap, subst, sym}
use Rattle.std.proofs.Common.{◌∙◌, arith, get_or-set_other, get_or-set_same, length-set, inl, inr}
use Rattle.std.specs.Prelude.{Contains, slice_get, slice_index_or, Option, None, IfSome, IfNone}
use Rattle.std.proofs.lemmas.Bool.{cases_eq}
use Rattle.std.proofs.lemmas.List.{take-append-le}
use Rattle.std.proofs.lemmas.List.Elements.{Contains-append_right}
use Rattle.graph_order.specs.Needs.{needs_of, LeadsTo, Stay, Go_on, IsOnCycle}
use Rattle.graph_order.specs.Orders.{IsRightOrder}
use Rattle.graph_order.specs.Visits.{Chained, IsVisiting, Waits, IsFree}
use Rattle.graph_order.proofs.Marked.{marked_more, counted_contains, contains_cases, place_cases}

-- the top, or what is below it, is led to from the top
pub leads_down : (needs : List (List ℕ)) (k j : ℕ) (rest : List ℕ) → Chained needs (k ∷ rest) → Contains (k ∷ rest) j → LeadsTo needs k j
leads_down needs k j rest chained has = elim (contains_cases k rest j has) [
  | inl same ↦ subst (λ (x : ℕ). LeadsTo needs k x) same (Stay k)
  | inr later ↦ (chained.0 j later).1
]

-- no bit is both
not_both : (b : Bool) → b ≡ true → b ≡ false → ⊥
not_both b hit miss = cc

-- what was not met is not in the order
pub not_done : (b c : Bool) → (b ≡ true → c ≡ true) → c ≡ false → b ≡ false
not_done true c implied miss = let hit = implied refl in cc
not_done false c implied miss = refl

-- a need that was met and isn't in the order stands on the stack, so it is on a cycle
pub visit_loop : (needs : List (List ℕ)) (k need : ℕ) (rest : List ℕ) (seen done : List Bool) (order : List ℕ)
    → IsVisiting needs (k ∷ rest) seen done order → Waits needs done k need → slice_index_or seen need false ≡ true → IsOnCycle needs need
visit_loop needs k need rest seen done order v w met =
    record { by = k; needed = w.asked; back = leads_down needs k need rest v.chained (v.waits need w.within met w.undone) }

-- what is met is put on the stack
pub visit_push : (needs : List (List ℕ)) (stack : List ℕ) (seen done : List Bool) (order : List ℕ) (from : ℕ) → IsVisiting needs stack seen done order
    → from < length needs → slice_index_or seen from false ≡ false → ((j : ℕ) → Contains stack j → LeadsTo needs from j)
    → IsVisiting needs (from ∷ stack) (set seen from true) done order
visit_push needs stack seen done order from v within fresh leads =
    let now : get_or (set seen from true) from false ≡ true = get_or-set_same seen from true false (omega (arith, v.seen_len)) in
    let other : (j : ℕ) → j ≢ from → get_or (set seen from true) j false ≡ get_or seen j false = λ j apart. get_or-set_other seen from j true false apart in
    let apart : (j : ℕ) → get_or seen j false ≡ true → j ≢ from = λ j hit same. not_both (get_or seen j false) hit
    (ap (λ (x : ℕ). get_or seen x false) same ∙ fresh) in
    let kept : (j : ℕ) → get_or seen j false ≡ true → get_or (set seen from true) j false ≡ true = λ j hit. other j (apart j hit) ∙ hit in
    record {
      seen_len = length-set seen from true ∙ v.seen_len;
      done_len = v.done_len;
      met = λ j has. elim (contains_cases from stack j has) [
        | inl same ↦ rw (sym same) (within, now, not_done (get_or done from false) (get_or seen from false) (v.done_seen from) fresh)
        | inr later ↦ let (lt, hit, miss) = v.met j later in (lt, kept j hit, miss)
      ];
      chained = (λ j has. ((λ same. apart j (v.met j has).1 (sym same)), leads j has), v.chained);
      waits = λ j lt hit miss. elim (cases_eq j from) [
        | inl same ↦ (0, omega arith, sym same)
        | inr differs ↦ Contains-append_right (from ∷ []) stack j (v.waits j lt (sym (other j differs) ∙ hit) miss)
      ];
      done_seen = λ j hit. kept j (v.done_seen j hit);
      marked = v.marked;
      in_range = v.in_range;
      earlier = v.earlier;
    }

pub all_done : (b : Bool) → (b ≡ false → ⊥) → b ≡ true
all_done true h = refl
all_done false h = absurd (h refl)

take_whole : (xs ys : List ℕ) → take (length xs) (xs ++ ys) ≡ xs
take_whole [] ys = refl
take_whole (x ∷ xs) ys = ap (λ (zs : List ℕ). x ∷ zs) (take_whole xs ys)

-- the place on top, which waits for nothing, is put into the order
pub visit_pop : (needs : List (List ℕ)) (k : ℕ) (rest : List ℕ) (seen done : List Bool) (order : List ℕ) → IsVisiting needs (k ∷ rest) seen done order
    → IsFree needs done k → IsVisiting needs rest seen (set done k true) (order ++ k ∷ [])
visit_pop needs k rest seen done order v free =
    let top : Contains (k ∷ rest) k = (0, omega arith, refl) in
    let (within, hit_k, miss_k) = v.met k top in
    let inside : k < length done = omega (arith, v.done_len) in
    let now : get_or (set done k true) k false ≡ true = get_or-set_same done k true false inside in
    let other : (j : ℕ) → j ≢ k → get_or (set done k true) j false ≡ get_or done j false = λ j apart. get_or-set_other done k j true false apart in
    record {
      seen_len = v.seen_len;
      done_len = length-set done k true ∙ v.done_len;
      met = λ j has. let (lt, hit, miss) = v.met j (Contains-append_right (k ∷ []) rest j has) in
          (lt, hit, other j (λ same. (v.chained.0 j has).0 (sym same)) ∙ miss);
      chained = v.chained.1;
      waits = λ j lt hit miss.
          let apart : j ≢ k = λ same. not_both (get_or (set done k true) j false) (ap (λ (x : ℕ). get_or (set done k true) x false) same ∙ now) miss in
          elim (contains_cases k rest j (v.waits j lt hit (sym (other j apart) ∙ miss))) [
            | inl same ↦ absurd (apart (sym same))
            | inr later ↦ later
          ];
      done_seen = λ j hit. elim (cases_eq j k) [
        | inl same ↦ ap (λ (x : ℕ). get_or seen x false) same ∙ hit_k
        | inr apart ↦ v.done_seen j (sym (other j apart) ∙ hit)
      ];
      marked = marked_more order done k inside miss_k v.marked;
      in_range = λ i j at. elim (place_cases order k i j at) [
        | inl old ↦ v.in_range i j old.1
        | inr new ↦ subst (λ (x : ℕ). x < length needs) new.1 within
      ];
      earlier = λ i j need at asked lt. elim (place_cases order k i j at) [
        | inl old ↦
            let short : take i (order ++ k ∷ []) ≡ take i order = take-append-le i order (k ∷ []) (omega (arith, old.0)) in
            rw short (v.earlier i j need old.1 asked lt)
        | inr new ↦
            let whole : take i (order ++ k ∷ []) ≡ order = ap (λ (x : ℕ). take x (order ++ k ∷ [])) new.0 ∙ take_whole order (k ∷ []) in
            let hit : get_or done need false ≡ true = free need (subst (λ (x : ℕ). Contains (needs_of needs x) need) (sym new.1) asked) lt in
            let once = v.marked need (omega (arith, v.done_len)) ∙ ap (λ (b : Bool). cond {A = ℕ} b 1 0) hit in
            rw whole (counted_contains need order (omega (arith, once)))
      ];
    }

-- a search begins where nothing was met
pub visit_none : (needs : List (List ℕ)) (seen done : List Bool) → length seen ≡ length needs → length done ≡ length needs
    → ((k : ℕ) → get_or seen k false ≡ false) → ((k : ℕ) → get_or done k false ≡ false) → IsVisiting needs [] seen done []
visit_none needs seen done len_s len_d none_s none_d = record {
  seen_len = len_s;
  done_len = len_d;
  met = λ k has. absurd (omega (arith, has.1));
  chained = tt;
  waits = λ k lt hit miss. absurd (not_both (get_or seen k false) hit (none_s k));
  done_seen = λ k hit. absurd (not_both (get_or done k false) hit (none_d k));
  marked = λ n lt. rw (none_d n) refl;
  in_range = λ i k at. cc;
  earlier = λ i k need at. cc;
}

-- a search that has met all places and waits for none has ordered them
pub visit_all : (needs : List (List ℕ)) (seen done : List Bool) (order : List ℕ) → IsVisiting needs [] seen done order
    → ((k : ℕ) → k < length needs → get_or seen k false ≡ true) → IsRightOrder needs order
visit_all needs seen done order v all = record {
  each_once = λ k lt.
      let hit : get_or done k false ≡ true = all_done (get_or done k false) (λ miss. let has = v.waits k lt (all k lt) miss in omega (arith, has.1)) in
      v.marked k (omega (arith, v.done_len)) ∙ ap (λ (b : Bool). cond {A = ℕ} b 1 0) hit;
  in_range = v.in_range;
  earlier = v.earlier;
}

-- the same steps, where the top is known by its place
pub step_within : (needs : List (List ℕ)) (stack : List ℕ) (seen done : List Bool) (order : List ℕ) (k : ℕ) → IsVisiting needs stack seen done order
    → slice_get stack 0 ≡ Some k → k < length needs
step_within needs [] seen done order k v top = cc
step_within needs (x ∷ rest) seen done order k v top =
    let same : x ≡ k = cc in let there = (v.met x (0, omega arith, refl)).0 in omega arith

pub step_loop : (needs : List (List ℕ)) (k need : ℕ) (stack : List ℕ) (seen done : List Bool) (order : List ℕ)
    → IsVisiting needs stack seen done order → slice_get stack 0 ≡ Some k → Waits needs done k need → slice_index_or seen need false ≡ true
    → IsOnCycle needs need
step_loop needs k need [] seen done order v top w met = cc
step_loop needs k need (x ∷ rest) seen done order v top w met =
    let same : k ≡ x = cc in
    visit_loop needs x need rest seen done order v (subst (λ (y : ℕ). Waits needs done y need) same w) met

pub step_push : (needs : List (List ℕ)) (k need : ℕ) (stack : List ℕ) (seen done : List Bool) (order : List ℕ)
    → IsVisiting needs stack seen done order → slice_get stack 0 ≡ Some k → Waits needs done k need → slice_index_or seen need false ≡ false
    → IsVisiting needs (need ∷ stack) (set seen need true) done order
step_push needs k need [] seen done order v top w fresh = cc
step_push needs k need (x ∷ rest) seen done order v top w fresh =
    let same : k ≡ x = cc in
    let asked : Contains (needs_of needs x) need = subst (λ (y : ℕ). Contains (needs_of needs y) need) same w.asked in
    visit_push needs (x ∷ rest) seen done order need v w.within fresh (λ j has. Go_on need x j asked (leads_down needs x j rest v.chained has))

-- the value that a pop takes is the one that stood on top
pub popped : (old new : List ℕ) (r : Option ℕ) (k : ℕ) → IfSome r (λ x. old ≡ x ∷ new) → IfNone r (old ≡ []) → slice_get old 0 ≡ Some k → old ≡ k ∷ new
popped old new None k some none top = let gone : slice_get {X = ℕ} [] 0 ≡ Some k = rw none at top in cc
popped old new (Some x) k some none top = let first : slice_get (x ∷ new) 0 ≡ Some k = rw some at top in some ∙ ap (λ (y : ℕ). y ∷ new) (cc)

pub step_pop : (needs : List (List ℕ)) (k : ℕ) (old new : List ℕ) (seen done : List Bool) (order : List ℕ) → IsVisiting needs old seen done order
    → old ≡ k ∷ new → IsFree needs done k → IsVisiting needs new seen (set done k true) (order ++ k ∷ [])
step_pop needs k old new seen done order v same free =
    visit_pop needs k new seen done order (subst (λ (s : List ℕ). IsVisiting needs s seen done order) same v) free

-- what was met stays met
pub grows_more : (seen : List Bool) (from k : ℕ) → get_or seen from false ≡ false → get_or seen k false ≡ true → get_or (set seen from true) k false ≡ true
grows_more seen from k fresh hit =
    let apart : k ≢ from = λ same. not_both (get_or seen k false) hit (ap (λ (x : ℕ). get_or seen x false) same ∙ fresh) in
    get_or-set_other seen from k true false apart ∙ hit
