-- Keys that are reached one after another.
use Rattle.std.proofs.Common.{◌≡◌, ℕ, ◌+◌, ◌<◌, ◌≤◌, List, length, get_or, Some, sym, ◌∙◌, subst, arith, inl, inr, ◌⊎◌}
use Rattle.std.specs.Prelude.{slice_get}
use Rattle.std.proofs.lemmas.Bool.{cases_lt}
use Rattle.std.proofs.lemmas.Option.{slice_get-get_or, slice_get_within}
use Rattle.net_model.proofs.Members.{In, In-from_Contains, Contains-from_In}
use Rattle.query_model.specs.declared.keys.Key.{Key}
use Rattle.query_model.specs.declared.keys.KeyLit.{KeyLit}
use Rattle.query_model.proofs.Based.{placed, in_place}
use Rattle.frame_unroll.specs.Found.{with_keys, IsReached, Started, Read, AreReached}
use Rattle.frame_unroll.proofs.Adding.{kept_keys, old_keys, new_keys, from_keys}

-- what the keys before place `next` read is found
pub record Reaches (reads : Key → List KeyLit) (start found : List Key) (next : ℕ) : Type 0 where
  pub only : (k : Key) → In k found → IsReached reads start k
  pub old : (k : Key) → In k start → In k found
  pub closed : (i : ℕ) (k : Key) → i < next → slice_get found i ≡ Some k → (l : KeyLit) → In l (reads k) → In l.key found

pub reaches_first : (reads : Key → List KeyLit) (start : List Key) → Reaches reads start start 0
reaches_first reads start = record {
  only = λ k has. Started k (Contains-from_In start k has);
  old = λ k has. has;
  closed = λ i k lt at l has. absurd (omega arith);
}

same_place : (found : List Key) (reads : List KeyLit) (i : ℕ) (x k : Key) → slice_get found i ≡ Some x → slice_get (with_keys found reads) i ≡ Some k → x ≡ k
same_place found reads i x k old new = let kept = kept_keys found reads i x old in let e : Some x ≡ Some k = sym kept ∙ new in cc

-- one more key
pub reaches_more : (reads : Key → List KeyLit) (start found : List Key) (next : ℕ) (key : Key) → slice_get found next ≡ Some key
    → Reaches reads start found next → Reaches reads start (with_keys found (reads key)) (next + 1)
reaches_more reads start found next key here so_far = record {
  only = λ k has. from (from_keys found (reads key) k has);
  old = λ k has. old_keys found (reads key) k (so_far.old k has);
  closed = λ i k lt at l has. by i k lt at l has (cases_lt i next);
}
  where
    from : {k : Key} → In k found ⊎ ((l : KeyLit) × In l (reads key) × (l.key ≡ k)) → IsReached reads start k
    from {k} (inl old) = so_far.only k old
    from {k} (inr (l, has, is)) = subst (IsReached reads start) is (Read key l (so_far.only key (in_place key found next here))
        (Contains-from_In (reads key) l has))

    by : (i : ℕ) (k : Key) → i < next + 1 → slice_get (with_keys found (reads key)) i ≡ Some k → (l : KeyLit) → In l (reads k)
        → (i < next) ⊎ (next ≤ i) → In l.key (with_keys found (reads key))
    by i k lt at l has (inl before) =
        let within = slice_get_within found next key here in
        let x = get_or found i k in
        let old : slice_get found i ≡ Some x = slice_get-get_or found i k (omega arith) in
        old_keys found (reads key) l.key (so_far.closed i x before old l
        (subst (λ (y : Key). In l (reads y)) (sym (same_place found (reads key) i x k old at)) has))
    by i k lt at l has (inr after) =
        let e : next ≡ i = omega arith in
        let old : slice_get found i ≡ Some key = subst (λ (m : ℕ). slice_get found m ≡ Some key) e here in
        new_keys found (reads key) l (subst (λ (y : Key). In l (reads y)) (sym (same_place found (reads key) i key k old at)) has)

all_found : (reads : Key → List KeyLit) (start found : List Key) (next : ℕ) → length found ≤ next → Reaches reads start found next → (k : Key)
    → IsReached reads start k → In k found
all_found reads start found next last so_far m (Started k has) = so_far.old k (In-from_Contains start k has)
all_found reads start found next last so_far m (Read j l from has) =
    let place = placed j found (all_found reads start found next last so_far j from) in
    so_far.closed place.0 j (let within = slice_get_within found place.0 j place.1 in omega arith) place.1 l (In-from_Contains (reads j) l has)

-- all keys
pub reaches_all : (reads : Key → List KeyLit) (start found : List Key) (next : ℕ) → length found ≤ next → Reaches reads start found next
    → AreReached reads start found
reaches_all reads start found next last so_far = record {
  only = λ k has. so_far.only k (In-from_Contains found k has);
  all = λ k is. Contains-from_In found k (all_found reads start found next last so_far k is);
}
