-- A key's number is in range where the key is listed, and its variable's value is the key's.
use Rattle.std.proofs.Common.{◌≡◌, ℕ, ◌+◌, ◌-◌, ◌<◌, ◌≤◌, Bool, true, false, cond, List, [], ◌∷◌, length, Some, None, refl, ap, sym, ◌∙◌, arith, inl, inr}
use Rattle.std.specs.Prelude.{slice_get, slice_index_or, Contains}
use Rattle.std.proofs.lemmas.Bool.{cases_Bool, or_cases}
use Rattle.std.proofs.lemmas.Option.{slice_get_within, get_or_from_slice_get}
use Rattle.net_model.proofs.Members.{In, In-from_Contains, Contains-from_In}
use Rattle.frame_unroll.specs.Framed.{number_if_any}
use Rattle.query_model.specs.Formula.{same_key, has_key}
use Rattle.query_model.specs.Variables.{number_of, by_number}
use Rattle.query_model.proofs.Needs.{same_key-refl, any_in}
use Rattle.query_model.proofs.Places.{same_key-true, at_number}
use Rattle.query_model.specs.declared.keys.Key.{Key}
use Rattle.proof_log.specs.Formulas.{value_in}
use Rattle.cnf_encode.specs.FreeBits.{value_or_zero}

has_in : (keys : List Key) (k : Key) → has_key keys k ≡ true → In k keys
has_in [] k e = absurd cc
has_in (j ∷ js) k e =
    elim (or_cases (same_key k j) (has_key js k) e) [
      | inl here ↦ inl (sym (same_key-true k j here))
      | inr later ↦ inr (has_in js k later)
    ]

-- the test for a key is that of membership
has_listed : (keys : List Key) (k : Key) → Contains keys k → has_key keys k ≡ true
has_listed keys k listed = any_in (same_key k) k keys (In-from_Contains keys k listed) (same_key-refl k)

has_not : (keys : List Key) (k : Key) → ¬ Contains keys k → has_key keys k ≡ false
has_not keys k none =
    elim (cases_Bool (has_key keys k)) [
      | inl has ↦ absurd (none (Contains-from_In keys k (has_in keys k has)))
      | inr not_there ↦ not_there
    ]

from_one : (keys : List Key) (k : Key) → 1 ≤ number_of keys k
from_one [] k = omega arith
from_one (j ∷ js) k = by_test (same_key j k) where
  by_test : (b : Bool) → 1 ≤ cond b 1 (number_of js k + 1)
  by_test true = omega arith
  by_test false = omega arith

-- a number that is found
pub record IsNumber (keys : List Key) (k : Key) (n : ℕ) : Type 0 where
  pub has : has_key keys k ≡ true
  pub is : n ≡ number_of keys k
  pub from : 1 ≤ n
  pub to : n - 1 < length keys

pub number_found : (keys : List Key) (k : Key) (n : ℕ) → number_if_any keys k ≡ Some n → IsNumber keys k n
number_found keys k n found = by_test (has_key keys k) refl found where
  by_test : (b : Bool) → has_key keys k ≡ b → cond b (Some (number_of keys k)) None ≡ Some n → IsNumber keys k n
  by_test true has e =
      let same : number_of keys k ≡ n = cc in
      let low = slice_get_within keys (number_of keys k - 1) k (at_number keys k (has_in keys k has)) in
      record { has = has; is = sym same; from = omega (arith, from_one keys k); to = omega arith }
  by_test false has e = absurd (none_some e) where
    none_some : None ≡ Some n → ⊥
    none_some e = cc

pub value_found : (keys : List Key) (values : List Bool) (k : Key) (n : ℕ) (v : Bool) → IsNumber keys k n → slice_get values (n - 1) ≡ Some v
    → v ≡ value_or_zero keys values k
value_found keys values k n v number at =
    sym (ap (λ (b : Bool). cond b (slice_index_or values (number_of keys k - 1) false) false) number.has
    ∙ (ap (λ (i : ℕ). slice_index_or values (i - 1) false) (sym number.is) ∙ get_or_from_slice_get values (n - 1) v false at))

-- a key that is listed has its variable's value, and one that isn't 0
pub value_listed : (keys : List Key) (values : List Bool) (k : Key) → Contains keys k → value_or_zero keys values k ≡ by_number keys (value_in values) k
value_listed keys values k has = ap (λ (b : Bool). cond b (by_number keys (value_in values) k) false) (has_listed keys k has)

pub value_not : (keys : List Key) (values : List Bool) (k : Key) → ¬ Contains keys k → value_or_zero keys values k ≡ false
value_not keys values k none = ap (λ (b : Bool). cond b (by_number keys (value_in values) k) false) (has_not keys k none)
