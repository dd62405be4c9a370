-- Lists of nets that grow.
use Rattle.std.proofs.Common.{◌≡◌, ℕ, ◌+◌, ◌<◌, ◌≤◌, Bool, true, false, cond, List, [], ◌∷◌, ◌++◌, length, Some, ap, sym, ◌∙◌, subst, arith, inl, inr, ◌⊎◌}
use Rattle.std.specs.Prelude.{slice_get, Contains, nat_eq}
use Rattle.std.specs.List.{list_any}
use Rattle.std.proofs.lemmas.Bool.{cases_lt, eqb-true}
use Rattle.std.proofs.lemmas.Option.{slice_get_within, slice_get-get_or, get_or_from_slice_get}
use Rattle.std.proofs.lemmas.List.Elements.{Contains-push_cases}
use Rattle.indexmap.specs.IndexSet.{insert_key}
use Rattle.indexmap.proofs.CallerLemmas.{Contains-insert_key}
use Rattle.frame_unroll.specs.Moves.{AreThose, Lists}
use Rattle.frame_unroll.proofs.Adding.{slice_get-left}

-- what stands at a place is in the list
pub listed_at : {X : Type 0} (xs : List X) (i : ℕ) (x : X) → slice_get xs i ≡ Some x → Contains xs x
listed_at xs i x at = (i, slice_get_within xs i x at, get_or_from_slice_get xs i x x at)

-- and what is in the list has a place
pub place_of : {X : Type 0} (xs : List X) (x : X) (has : Contains xs x) → slice_get xs has.0 ≡ Some x
place_of xs x has = slice_get-get_or xs has.0 x has.1 ∙ ap Some has.2

some_is : {X : Type 0} (x y : X) → Some x ≡ Some y → x ≡ y
some_is x y e = cc

-- what was listed is still
pub lists_old : (P : ℕ → Type 0) (old new : List ℕ) (n : ℕ) → Lists P old new → Contains old n → Contains new n
lists_old P old new n lists has = listed_at new has.0 n (lists.places has.0 n (place_of old n has))

-- the same said of the nets in other words
pub lists_as : (P Q : ℕ → Type 0) (old new : List ℕ) → ((n : ℕ) → P n → Q n) → ((n : ℕ) → Q n → P n) → Lists P old new → Lists Q old new
lists_as P Q old new to from lists = record {
  places = lists.places;
  only = λ n has. elim (lists.only n has) [ inl was ↦ inl was | inr is ↦ inr (to n is) ];
  all = λ n is. lists.all n (from n is);
}

-- no net is listed where it holds of none
pub lists_stay : (P : ℕ → Type 0) (nets : List ℕ) → ((n : ℕ) → P n → ⊥) → Lists P nets nets
lists_stay P nets none = record { places = λ i n at. at; only = λ n has. inl has; all = λ n is. absurd (none n is) }

same_net : (x y : ℕ) → nat_eq x y ≡ true → x ≡ y
same_net x y e = eqb-true x y e

-- the one net of which it holds is listed
pub lists_insert : (P : ℕ → Type 0) (nets : List ℕ) (k : ℕ) → P k → ((n : ℕ) → P n → n ≡ k) → Lists P nets (insert_key nat_eq nets k)
lists_insert P nets k is alone = record {
  places = λ i n at. stays i n at (list_any (nat_eq k) nets);
  only = λ n has. from n (list_any (nat_eq k) nets) has;
  all = λ n that. subst (Contains (insert_key nat_eq nets k)) (sym (alone n that)) (Contains-insert_key nat_eq same_net nets k);
}
  where
    stays : (i n : ℕ) → slice_get nets i ≡ Some n → (b : Bool) → slice_get (cond b nets (nets ++ k ∷ [])) i ≡ Some n
    stays i n at true = at
    stays i n at false = slice_get-left nets (k ∷ []) i n at

    from : (n : ℕ) (b : Bool) → Contains (cond b nets (nets ++ k ∷ [])) n → Contains nets n ⊎ P n
    from n true has = inl has
    from n false has = elim (Contains-push_cases nets k n has) [ inl was ↦ inl was | inr here ↦ inr (subst P here is) ]

-- it holds by one of the first so many items
pub record HoldsBelow {X : Type 0} (xs : List X) (i : ℕ) (P : X → ℕ → Type 0) (n : ℕ) : Type 0 where
  pub place : ℕ
  pub item : X
  pub low : place < i
  pub at : slice_get xs place ≡ Some item
  pub holds : P item n

pub lists_none : {X : Type 0} (xs : List X) (P : X → ℕ → Type 0) (nets : List ℕ) → Lists (HoldsBelow xs 0 P) nets nets
lists_none xs P nets = lists_stay (HoldsBelow xs 0 P) nets (λ n is. omega (arith, is.low))

-- by one more item
pub lists_more : {X : Type 0} (xs : List X) (P : X → ℕ → Type 0) (i : ℕ) (x : X) (first old new : List ℕ) → slice_get xs i ≡ Some x
    → Lists (HoldsBelow xs i P) first old → Lists (P x) old new → Lists (HoldsBelow xs (i + 1) P) first new
lists_more {X} xs P i x first old new at before here = record {
  places = λ j n is. here.places j n (before.places j n is);
  only = λ n has. elim (here.only n has) [
    | inl was ↦ elim (before.only n was) [
      | inl long_ago ↦ inl long_ago
      | inr is ↦ inr (later n is)
    ]
    | inr is ↦ inr (record { place = i; item = x; low = omega arith; at = at; holds = is })
  ];
  all = λ n is. by n is (cases_lt is.place i);
}
  where
    later : (n : ℕ) → HoldsBelow xs i P n → HoldsBelow xs (i + 1) P n
    later n is = record { place = is.place; item = is.item; low = let lt = is.low in omega arith; at = is.at; holds = is.holds }

    by : (n : ℕ) (is : HoldsBelow xs (i + 1) P n) → (is.place < i) ⊎ (i ≤ is.place) → Contains new n
    by n is (inl less) =
        lists_old (P x) old new n here (before.all n (record { place = is.place; item = is.item; low = less; at = is.at; holds = is.holds }))
    by n is (inr past) =
        let lt = is.low in
        let e : is.place ≡ i = omega arith in
        let same : is.item ≡ x = some_is is.item x (sym is.at ∙ (ap (slice_get xs) e ∙ at)) in
        here.all n (subst (λ (y : X). P y n) same is.holds)

-- by all items
pub lists_all : {X : Type 0} (xs : List X) (P : X → ℕ → Type 0) (i : ℕ) (old new : List ℕ) → length xs ≤ i → Lists (HoldsBelow xs i P) old new
    → Lists (λ n. (x : X) × Contains xs x × P x n) old new
lists_all {X} xs P i old new all lists =
    lists_as (HoldsBelow xs i P) (λ n. (x : X) × Contains xs x × P x n) old new
    (λ n is. (is.item, listed_at xs is.place is.item is.at, is.holds))
    (λ n (x, has, is). record { place = has.0; item = x; low = let lt = has.1 in omega arith; at = place_of xs x has; holds = is })
    lists

-- where none was listed
pub those_all : (P : ℕ → Type 0) (found : List ℕ) → Lists P [] found → AreThose P found
those_all P found lists = record {
  only = λ n has. elim (lists.only n has) [ inl none ↦ absurd (omega (arith, none.1)) | inr is ↦ is ];
  all = lists.all;
}
