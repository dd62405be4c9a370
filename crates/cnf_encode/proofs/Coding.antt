-- Numbers of keys, and codes of literals.
use Rattle.std.proofs.Common.{◌≡◌, ℕ, ◌+◌, ◌≤◌, Bool, true, false, cond, List, [], ◌∷◌, length, refl, Some, None, ap, sym, ◌∙◌, arith, inl, inr, ◌⊎◌}
use Rattle.std.specs.Prelude.{Contains}
use Rattle.net_model.proofs.Members.{In, In-from_Contains}
use Rattle.query_model.specs.Formula.{same_key, has_key}
use Rattle.query_model.specs.Variables.{number_of}
use Rattle.query_model.specs.declared.keys.Key.{Key}
use Rattle.query_model.proofs.Needs.{any_in, same_key-refl}
use Rattle.frame_unroll.specs.Framed.{number_if_any}

pub has_key-Contains : (keys : List Key) (k : Key) → Contains keys k → has_key keys k ≡ true
has_key-Contains keys k has = any_in (same_key k) k keys (In-from_Contains keys k has) (same_key-refl k)

-- a number is at least 1
pub number_from : (keys : List Key) (k : Key) → 1 ≤ number_of keys k
number_from [] k = omega arith
number_from (j ∷ js) k = by_test (same_key j k) where
  by_test : (b : Bool) → 1 ≤ cond b 1 (number_of js k + 1)
  by_test true = omega arith
  by_test false = omega arith

-- the number of a key of the list is at most the list's length
pub number_to : (keys : List Key) (k : Key) → In k keys → number_of keys k ≤ length keys
number_to [] k has = absurd has
number_to (j ∷ js) k has = by_test (same_key j k) refl has (number_to js k)
  where
    by_test : (b : Bool) → same_key j k ≡ b → (j ≡ k) ⊎ In k js → (In k js → number_of js k ≤ length js) → cond b 1 (number_of js k + 1) ≤ length (j ∷ js)
    by_test true e has rest = omega arith
    by_test false e (inl here) rest = let same : same_key j k ≡ true = ap (same_key j) (sym here) ∙ same_key-refl j in absurd cc
    by_test false e (inr later) rest = omega (arith, rest later)

-- the number that a look-up of a key of the list gives
pub number_is : (keys : List Key) (k : Key) (number : ℕ) → Contains keys k → number_if_any keys k ≡ Some number → (number ≡ number_of keys k)
    × (1 ≤ number) × (number ≤ length keys)
number_is keys k number has found = by_test (has_key keys k) (has_key-Contains keys k has) found
  where
    by_test : (b : Bool) → b ≡ true → cond b (Some (number_of keys k)) None ≡ Some number → (number ≡ number_of keys k) × (1 ≤ number) × (number ≤ length keys)
    by_test true e is =
        let same : number ≡ number_of keys k = cc in (same, omega (arith, number_from keys k), omega (arith, number_to keys k (In-from_Contains keys k has)))
    by_test false e is = absurd cc
