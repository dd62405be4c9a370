-- Sets of keys in which each is found by its number.
use Rattle.std.proofs.Common.{◌≡◌, ◌≢◌, ℕ, zero, suc, ◌+◌, ◌-◌, ◌%◌, ◌^◌, ◌<◌, ◌≤◌, Bool, true, false, cond, List, [], ◌∷◌, ◌++◌, length, take, get_or, set, refl, ap, sym, subst, ◌∙◌}
use Rattle.std.proofs.Common.{slice_get, Some, None, IsTrue, is_lt, arith, inl, inr, ◌⊎◌, length-append}
use Rattle.std.specs.List.{AllByRecursion, IsDistinct}
use Rattle.std.proofs.lemmas.List.Sorted.{Contains-permutation, IsPermutation-sym}
use Rattle.std.specs.Prelude.{◌||◌, IsPermutation}
use Rattle.std.proofs.lemmas.Bool.{cases_eq}
use Rattle.std.proofs.lemmas.List.{get_or-set_same, get_or-set_other, length-set}
use Rattle.std.proofs.lemmas.Option.{slice_get-get_or}
use Rattle.query_model.specs.Formula.{same_key, has_key}
use Rattle.query_model.specs.Variables.{number_of}
use Rattle.query_model.specs.declared.keys.Key.{Key}
use Rattle.query_model.proofs.Places.{same_key-true}
use Rattle.query_model.proofs.Needs.{same_key-refl}
use Rattle.indexmap.proofs.CallerLemmas.{Contains-list_any}
use Rattle.frame_unroll.specs.Found.{IsSmall, AreAscending}
use Rattle.frame_unroll.specs.Framed.{number_if_any}
use Rattle.frame_unroll.specs.KeySets.{page_place, slot, number_at, ArePages, AreNumbered}
use Rattle.frame_unroll.proofs.Listed.{place_of}
use Rattle.frame_unroll.proofs.KeyOrder.{key_cmp, ascend_from_sorted}
use Rattle.frame_unroll.proofs.Framing.{number-placed, other_key, same_key-turned}

apart_if_numbered : (f : Key → ℕ) (k : Key) (n : ℕ) (keys : List Key) → f k < n
    → ((i : ℕ) (j : Key) → slice_get keys i ≡ Some j → f j ≡ n + i) → AllByRecursion (λ y. same_key k y ≡ false) keys
apart_if_numbered f k n [] below numbers = tt
apart_if_numbered f k n (x ∷ xs) below numbers =
    (by (same_key k x) refl, apart_if_numbered f k (n + 1) xs (omega (arith, below)) (λ i j at. let e : n + suc i ≡ n + 1 + i = omega arith in numbers (suc i) j at ∙ e))
  where
    by : (b : Bool) → same_key k x ≡ b → b ≡ false
    by true same =
        let e : f k ≡ f x = ap f (same_key-true k x same) in
        absurd (omega (arith, below, e, numbers 0 x refl))
    by false other = refl

-- keys whose numbers are their places are apart
pub distinct_if_numbered : (f : Key → ℕ) (n : ℕ) (keys : List Key) → ((i : ℕ) (k : Key) → slice_get keys i ≡ Some k → f k ≡ n + i)
    → IsDistinct same_key keys
unfolding IsDistinct
distinct_if_numbered f n [] numbers = tt
distinct_if_numbered f n (x ∷ xs) numbers =
    let later : (i : ℕ) (k : Key) → slice_get xs i ≡ Some k → f k ≡ n + 1 + i =
    λ i k at. let e : n + suc i ≡ n + 1 + i = omega arith in numbers (suc i) k at ∙ e in
    (apart_if_numbered f x (n + 1) xs (omega (arith, numbers 0 x refl)) later, distinct_if_numbered f (n + 1) xs later)

pub numbered_distinct : (width : ℕ) (pages numbers : List ℕ) (keys : List Key) → AreNumbered width pages numbers keys → IsDistinct same_key keys
numbered_distinct width pages numbers keys are =
    distinct_if_numbered (number_at width pages numbers) 1 keys
    (λ i k at. let e : i + 1 ≡ 1 + i = omega arith in are.placed i k at ∙ e)

-- a key that has a number has that one
pub number_is : (keys : List Key) (n : ℕ) (k : Key) → IsDistinct same_key keys → 0 < n → slice_get keys (n - 1) ≡ Some k → Some n ≡ number_if_any keys k
number_is keys n k distinct some at =
    let e : n ≡ n - 1 + 1 = omega (arith, some) in
    ap (λ (m : ℕ). Some m) e ∙ sym (number-placed keys (n - 1) k distinct at)

same_some : (x y : Key) → Some x ≡ Some y → x ≡ y
same_some x y e = cc

-- the key with a number is the one at its place
pub has_at : (keys : List Key) (n : ℕ) (k d : Key) (b : Bool) → 0 < n → n ≤ length keys → b ≡ same_key (get_or keys (n - 1) d) k
    → (IsTrue b → (0 < n) × (slice_get keys (n - 1) ≡ Some k)) × ((0 < n) × (slice_get keys (n - 1) ≡ Some k) → IsTrue b)
has_at keys n k d b some within is =
    let at : slice_get keys (n - 1) ≡ Some (get_or keys (n - 1) d) = slice_get-get_or keys (n - 1) d (omega (arith, some, within)) in (
      λ yes. (some, at ∙ ap Some (same_key-true (get_or keys (n - 1) d) k (sym is ∙ yes))),
      λ there. is ∙ ap (λ (j : Key). same_key j k) (same_some (get_or keys (n - 1) d) k (sym at ∙ there.1)) ∙ same_key-refl k,
    )

-- a key that stands at no place has none
pub number_none : (keys : List Key) (k : Key) → ((i : ℕ) → slice_get keys i ≡ Some k → ⊥) → None ≡ number_if_any keys k
number_none keys k nowhere = by (has_key keys k) refl
  where
    by : (b : Bool) → has_key keys k ≡ b → None ≡ number_if_any keys k
    by true has = let at = Contains-list_any same_key same_key-true keys k has in absurd (nowhere at.0 (place_of keys k at))
    by false none = ap (λ (b : Bool). cond b (Some (number_of keys k)) None) (sym none)

pushed_at : (keys : List Key) (y : Key) (i : ℕ) (k : Key) → slice_get (keys ++ y ∷ []) i ≡ Some k
    → (slice_get keys i ≡ Some k) ⊎ ((i ≡ length keys) × (y ≡ k))
pushed_at [] y zero k at = inr (refl, cc)
pushed_at [] y (suc i) k at = absurd cc
pushed_at (x ∷ xs) y zero k at = inl at
pushed_at (x ∷ xs) y (suc i) k at = elim (pushed_at xs y i k at) [
  | inl old ↦ inl old
  | inr (e, is) ↦ inr (ap suc e, is)
]

-- a key that is new where no number stands gets the next one
pub numbered_more : (width : ℕ) (pages numbers : List ℕ) (keys : List Key) (y : Key) → AreNumbered width pages numbers keys → IsSmall y
    → 0 < get_or pages (page_place width y) 0 → number_at width pages numbers y ≡ 0 → length keys + 1 < 2 ^ 32
    → AreNumbered width pages (set numbers (slot width pages y) (length keys + 1)) (keys ++ y ∷ [])
numbered_more width pages numbers keys y are small made none few = record {
  wide = are.wide;
  are_pages = record {
    whole = ap (λ (n : ℕ). n % 128) (length-set numbers at (length keys + 1)) ∙ are.are_pages.whole;
    blank = λ i low. get_or-set_other numbers at i (length keys + 1) 0 (omega (arith, low, made)) ∙ are.are_pages.blank i low;
    within = λ i. omega (arith, length-set numbers at (length keys + 1), are.are_pages.within i);
  };
  few = omega (arith, few, length-append keys (y ∷ []));
  small = λ i k is. elim (pushed_at keys y i k is) [ inl old ↦ are.small i k old | inr (e, same) ↦ subst IsSmall same small ];
  placed = λ i k is. elim (pushed_at keys y i k is) [ inl old ↦ stays i k old | inr (e, same) ↦ new i k e same ];
}
  where
    at : ℕ
    at = slot width pages y

    numbers_then : List ℕ
    numbers_then = set numbers at (length keys + 1)

    stays : (i : ℕ) (k : Key) → slice_get keys i ≡ Some k → number_at width pages numbers_then k ≡ i + 1
    stays i k old = by (cases_eq (slot width pages k) at)
      where
        by : (slot width pages k ≡ at) ⊎ (slot width pages k ≢ at) → number_at width pages numbers_then k ≡ i + 1
        by (inl same) =
            let was : number_at width pages numbers k ≡ 0 = ap (λ (p : ℕ). get_or numbers p 0) same ∙ none in
            absurd (omega (arith, was, are.placed i k old))
        by (inr other) = get_or-set_other numbers at (slot width pages k) (length keys + 1) 0 other ∙ are.placed i k old

    new : (i : ℕ) (k : Key) → i ≡ length keys → y ≡ k → number_at width pages numbers_then k ≡ i + 1
    new i k e same =
        let within : at < length numbers = omega (arith, are.are_pages.within (page_place width y)) in
        ap (number_at width pages numbers_then) (sym same) ∙ get_or-set_same numbers at (length keys + 1) 0 within ∙ ap (λ (n : ℕ). n + 1) (sym e)

-- a key after others is none of them
pub new_after : (keys : List Key) (i : ℕ) (k : Key) → IsDistinct same_key keys → slice_get keys i ≡ Some k → has_key (take i keys) k ≡ false
unfolding IsDistinct
new_after [] i k distinct at = absurd cc
new_after (x ∷ xs) zero k distinct at = refl
new_after (x ∷ xs) (suc i) k distinct at =
    ap (λ (b : Bool). b || has_key (take i xs) k) (same_key-turned k x ∙ other_key x k xs i distinct.0 at) ∙ new_after xs i k distinct.1 at

-- the same where pages changed and no number by it
pub numbered_added : (width : ℕ) (pages numbers after later : List ℕ) (keys more : List Key) (y : Key) (at n : ℕ)
    → AreNumbered width pages numbers keys → ArePages after later → ((k : Key) → number_at width after later k ≡ number_at width pages numbers k)
    → IsSmall y → 0 < get_or after (page_place width y) 0 → at ≡ slot width after y → get_or later at 0 ≡ 0 → more ≡ keys ++ y ∷ [] → n ≡ length more
    → length keys < 4294967294 → AreNumbered width after (set later at n) more
numbered_added width pages numbers after later keys more y at n are are_pages same small made here none is count few =
    let then : AreNumbered width after later keys = record {
      wide = are.wide;
      are_pages = are_pages;
      few = are.few;
      small = are.small;
      placed = λ i k p. same k ∙ are.placed i k p;
    } in
    let next : n ≡ length keys + 1 = count ∙ ap (length {A = Key}) is ∙ length-append keys (y ∷ []) in
    subst (λ (ks : List Key). AreNumbered width after (set later at n) ks) (sym is)
    (subst (λ (m : ℕ). AreNumbered width after (set later at m) (keys ++ y ∷ [])) (sym next)
    (subst (λ (p : ℕ). AreNumbered width after (set later p (length keys + 1)) (keys ++ y ∷ [])) (sym here)
    (numbered_more width after later keys y then small made (ap (λ (p : ℕ). get_or later p 0) (sym here) ∙ none) (omega (arith, few)))))

-- a key whose number is not there has none
pub number_absent : (width : ℕ) (pages numbers : List ℕ) (keys : List Key) (k : Key) (n : ℕ) (b : Bool) → AreNumbered width pages numbers keys
    → (IsSmall k → n ≡ number_at width pages numbers k) → ((0 < n) × (slice_get keys (n - 1) ≡ Some k) → b ≡ true) → b ≡ false
    → None ≡ number_if_any keys k
number_absent width pages numbers keys k n b are is has isnt =
    number_none keys k (λ i at.
    let e : n ≡ i + 1 = is (are.small i k at) ∙ are.placed i k at in
    let place : i ≡ n - 1 = omega (arith, e) in
    let there : b ≡ true = has (omega (arith, e), ap (slice_get keys) (sym place) ∙ at) in
    absurd cc)

-- sorted keys of which no two are the same
pub ascending_sorted : (found keys : List Key) → IsPermutation found keys → ((i : ℕ) (d : Key) → 0 ≤ i → i + 1 < length keys
    → is_lt (key_cmp (get_or keys (i + 1) d) (get_or keys i d)) ≡ false) → IsDistinct same_key keys → AreAscending found keys
ascending_sorted found keys moved sorted distinct = record {
  ascending = ascend_from_sorted keys sorted distinct;
  only = λ k has. Contains-permutation keys found k (IsPermutation-sym found keys moved) has;
  all = λ k has. Contains-permutation found keys k moved has;
}
