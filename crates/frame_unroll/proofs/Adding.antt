-- Keys that are added to a list where they are new.
use Rattle.std.proofs.Common.{◌≡◌, ℕ, zero, suc, ◌+◌, Bool, true, false, cond, List, [], ◌∷◌, ◌++◌, take, Some, refl, ap, sym, ◌∙◌, subst, inl, inr, ◌⊎◌}
use Rattle.std.specs.Prelude.{slice_get, ◌||◌}
use Rattle.net_model.proofs.Members.{In, In-left, In-right, In-cases}
use Rattle.query_model.specs.Formula.{same_key, has_key}
use Rattle.query_model.specs.declared.keys.Key.{Key}
use Rattle.query_model.specs.declared.keys.KeyLit.{KeyLit}
use Rattle.query_model.proofs.Places.{same_key-true}
use Rattle.frame_unroll.specs.Found.{with_key, with_keys, with_clauses}
use Rattle.frame_unroll.proofs.Numbering.{take_at}

-- literals one after another
pub with_keys-append : (keys : List Key) (xs ys : List KeyLit) → with_keys keys (xs ++ ys) ≡ with_keys (with_keys keys xs) ys
with_keys-append keys [] ys = refl
with_keys-append keys (x ∷ xs) ys = with_keys-append (with_key keys x.key) xs ys

with_clauses-append : (keys : List Key) (xs ys : List (List KeyLit)) → with_clauses keys (xs ++ ys) ≡ with_clauses (with_clauses keys xs) ys
with_clauses-append keys [] ys = refl
with_clauses-append keys (x ∷ xs) ys = with_clauses-append (with_keys keys x) xs ys

-- one more literal
pub with_keys-take : (keys : List Key) (ls : List KeyLit) (i : ℕ) (l : KeyLit) → slice_get ls i ≡ Some l → with_keys keys (take (i + 1) ls) ≡ with_key
    (with_keys keys (take i ls)) l.key
with_keys-take keys ls i l at = ap (with_keys keys) ((take_at ls i l at).0) ∙ with_keys-append keys (take i ls) (l ∷ [])

-- one more clause
pub with_clauses-take : (keys : List Key) (cs : List (List KeyLit)) (i : ℕ) (c : List KeyLit) → slice_get cs i ≡ Some c
    → with_clauses keys (take (i + 1) cs) ≡ with_keys (with_clauses keys (take i cs)) c
with_clauses-take keys cs i c at = ap (with_clauses keys) ((take_at cs i c at).0) ∙ with_clauses-append keys (take i cs) (c ∷ [])

pub slice_get-left : {X : Type 0} (xs ys : List X) (i : ℕ) (x : X) → slice_get xs i ≡ Some x → slice_get (xs ++ ys) i ≡ Some x
slice_get-left [] ys i x at = absurd cc
slice_get-left (y ∷ xs) ys zero x at = at
slice_get-left (y ∷ xs) ys (suc i) x at = slice_get-left xs ys i x at

had : (keys : List Key) (k : Key) → has_key keys k ≡ true → In k keys
had [] k e = absurd cc
had (j ∷ js) k e = by (same_key k j) refl e (had js k)
  where
    by : (b : Bool) → same_key k j ≡ b → (b || has_key js k) ≡ true → (has_key js k ≡ true → In k js) → (j ≡ k) ⊎ In k js
    by true same any rest = inl (sym (same_key-true k j same))
    by false other any rest = inr (rest any)

-- a key keeps its place
pub kept_key : (keys : List Key) (k : Key) (i : ℕ) (x : Key) → slice_get keys i ≡ Some x → slice_get (with_key keys k) i ≡ Some x
kept_key keys k i x at = by (has_key keys k)
  where
    by : (b : Bool) → slice_get (cond b keys (keys ++ k ∷ [])) i ≡ Some x
    by true = at
    by false = slice_get-left keys (k ∷ []) i x at

pub kept_keys : (keys : List Key) (ls : List KeyLit) (i : ℕ) (x : Key) → slice_get keys i ≡ Some x → slice_get (with_keys keys ls) i ≡ Some x
kept_keys keys [] i x at = at
kept_keys keys (l ∷ ls) i x at = kept_keys (with_key keys l.key) ls i x (kept_key keys l.key i x at)

old_key : (keys : List Key) (k x : Key) → In x keys → In x (with_key keys k)
old_key keys k x has = by (has_key keys k)
  where
    by : (b : Bool) → In x (cond b keys (keys ++ k ∷ []))
    by true = has
    by false = In-left x keys (k ∷ []) has

new_key : (keys : List Key) (k : Key) → In k (with_key keys k)
new_key keys k = by (has_key keys k) refl
  where
    by : (b : Bool) → has_key keys k ≡ b → In k (cond b keys (keys ++ k ∷ []))
    by true is = had keys k is
    by false isnt = In-right k keys (k ∷ []) (inl refl)

from_key : (keys : List Key) (k x : Key) → In x (with_key keys k) → In x keys ⊎ (k ≡ x)
from_key keys k x = by (has_key keys k)
  where
    last : In x keys ⊎ In x (k ∷ []) → In x keys ⊎ (k ≡ x)
    last (inl old) = inl old
    last (inr (inl new)) = inr new
    last (inr (inr none)) = absurd none

    by : (b : Bool) → In x (cond b keys (keys ++ k ∷ [])) → In x keys ⊎ (k ≡ x)
    by true has = inl has
    by false has = last (In-cases x keys (k ∷ []) has)

-- the keys are still there
pub old_keys : (keys : List Key) (ls : List KeyLit) (x : Key) → In x keys → In x (with_keys keys ls)
old_keys keys [] x has = has
old_keys keys (l ∷ ls) x has = old_keys (with_key keys l.key) ls x (old_key keys l.key x has)

-- and so are those of the literals
pub new_keys : (keys : List Key) (ls : List KeyLit) (l : KeyLit) → In l ls → In l.key (with_keys keys ls)
new_keys keys [] l has = absurd has
new_keys keys (m ∷ ls) l (inl here) = old_keys (with_key keys m.key) ls l.key (subst (λ (n : KeyLit). In n.key (with_key keys m.key)) here (new_key keys m.key))
new_keys keys (m ∷ ls) l (inr later) = new_keys (with_key keys m.key) ls l later

-- there are no others
pub from_keys : (keys : List Key) (ls : List KeyLit) (x : Key) → In x (with_keys keys ls) → In x keys ⊎ ((l : KeyLit) × In l ls × (l.key ≡ x))
from_keys keys [] x has = inl has
from_keys keys (m ∷ ls) x has = by (from_keys (with_key keys m.key) ls x has)
  where
    first : In x keys ⊎ (m.key ≡ x) → In x keys ⊎ ((l : KeyLit) × In l (m ∷ ls) × (l.key ≡ x))
    first (inl old) = inl old
    first (inr new) = inr (m, inl refl, new)

    by : In x (with_key keys m.key) ⊎ ((l : KeyLit) × In l ls × (l.key ≡ x)) → In x keys ⊎ ((l : KeyLit) × In l (m ∷ ls) × (l.key ≡ x))
    by (inl before) = first (from_key keys m.key x before)
    by (inr (l, has_l, is)) = inr (l, inr has_l, is)

pub old_clauses : (keys : List Key) (cs : List (List KeyLit)) (x : Key) → In x keys → In x (with_clauses keys cs)
old_clauses keys [] x has = has
old_clauses keys (c ∷ cs) x has = old_clauses (with_keys keys c) cs x (old_keys keys c x has)

-- the same of clauses
pub new_clauses : (keys : List Key) (cs : List (List KeyLit)) (c : List KeyLit) (l : KeyLit) → In c cs → In l c → In l.key (with_clauses keys cs)
new_clauses keys [] c l has has_l = absurd has
new_clauses keys (b ∷ cs) c l (inl here) has_l = old_clauses (with_keys keys b) cs l.key (new_keys keys b l (subst (In l) (sym here) has_l))
new_clauses keys (b ∷ cs) c l (inr later) has_l = new_clauses (with_keys keys b) cs c l later has_l

pub from_clauses : (keys : List Key) (cs : List (List KeyLit)) (x : Key) → In x (with_clauses keys cs)
    → In x keys ⊎ ((c : List KeyLit) × In c cs × ((l : KeyLit) × In l c × (l.key ≡ x)))
from_clauses keys [] x has = inl has
from_clauses keys (b ∷ cs) x has = by (from_clauses (with_keys keys b) cs x has)
  where
    first : In x keys ⊎ ((l : KeyLit) × In l b × (l.key ≡ x)) → In x keys ⊎ ((c : List KeyLit) × In c (b ∷ cs) × ((l : KeyLit) × In l c × (l.key ≡ x)))
    first (inl old) = inl old
    first (inr new) = inr (b, inl refl, new)

    by : In x (with_keys keys b) ⊎ ((c : List KeyLit) × In c cs × ((l : KeyLit) × In l c × (l.key ≡ x)))
        → In x keys ⊎ ((c : List KeyLit) × In c (b ∷ cs) × ((l : KeyLit) × In l c × (l.key ≡ x)))
    by (inl before) = first (from_keys keys b x before)
    by (inr (c, has_c, mention)) = inr (c, inr has_c, mention)
