-- A key's number is its place in a list, and 1 more.
use Rattle.std.proofs.Common.{◌≡◌, ℕ, zero, suc, ◌+◌, ◌-◌, Bool, true, false, not, cond, List, [], ◌∷◌, slice_get, Some, None, refl, ap, sym}
use Rattle.std.proofs.Common.{subst, ◌∙◌, arith, nat_eq}
use Rattle.std.specs.Prelude.{◌&&◌, ◌||◌}
use Rattle.std.specs.List.{position_or_len, AllByRecursion, IsDistinct}
use Rattle.std.proofs.lemmas.Bool.{or_left, or_right, cond-true, cond-false}
use Rattle.query_model.specs.Formula.{same_key, has_key}
use Rattle.query_model.specs.Variables.{number_of}
use Rattle.query_model.specs.declared.keys.Key.{Key}
use Rattle.net_model.proofs.Members.{In-from_Contains}
use Rattle.query_model.proofs.Needs.{same_key-refl}
use Rattle.query_model.proofs.Places.{same_key-true, at_number}
use Rattle.indexmap.proofs.CallerLemmas.{Contains-list_any}
use Rattle.frame_unroll.specs.Framed.{number_if_any, key_of}

eq_turned : (a b : ℕ) → nat_eq a b ≡ nat_eq b a
eq_turned a b = grind arith

pub same_key-turned : (a b : Key) → same_key a b ≡ same_key b a
same_key-turned a b =
    ap (λ (x : Bool). x && (nat_eq a.layer b.layer && (nat_eq a.rail b.rail && nat_eq a.point b.point))) (eq_turned a.cycle b.cycle)
    ∙ ap (λ (x : Bool). nat_eq b.cycle a.cycle && (x && (nat_eq a.rail b.rail && nat_eq a.point b.point))) (eq_turned a.layer b.layer)
    ∙ ap (λ (x : Bool). nat_eq b.cycle a.cycle && (nat_eq b.layer a.layer && (x && nat_eq a.point b.point))) (eq_turned a.rail b.rail)
    ∙ ap (λ (x : Bool). nat_eq b.cycle a.cycle && (nat_eq b.layer a.layer && (nat_eq b.rail a.rail && x))) (eq_turned a.point b.point)

next_place : (p : ℕ) → p + 1 ≡ 1 + p
next_place p = omega arith

number_place : (keys : List Key) (k : Key) → number_of keys k ≡ position_or_len (same_key k) keys + 1
number_place [] k = refl
number_place (j ∷ js) k = by (same_key j k) (same_key k j) (same_key-turned j k) (number_place js k)
  where
    by : (x y : Bool) → x ≡ y → number_of js k ≡ position_or_len (same_key k) js + 1 → cond x 1 (number_of js k + 1) ≡ cond (not y)
        (1 + position_or_len (same_key k) js) 0 + 1
    by true true e rest = refl
    by true false e rest = absurd cc
    by false true e rest = absurd cc
    by false false e rest = ap (λ (n : ℕ). n + 1) (rest ∙ next_place (position_or_len (same_key k) js))

-- a key that is there stands at its number
pub key-numbered : (keys : List Key) (k : Key) (n : ℕ) → number_if_any keys k ≡ Some n → key_of keys n ≡ Some k
key-numbered keys k n found = by (has_key keys k) refl found
  where
    by : (b : Bool) → has_key keys k ≡ b → cond b (Some (number_of keys k)) None ≡ Some n → key_of keys n ≡ Some k
    by true has is =
        let same : number_of keys k ≡ n = cc in
        let next : n ≡ suc (number_of keys k - 1) = omega (arith, same, number_place keys k) in
        ap (key_of keys) next ∙ at_number keys k (In-from_Contains keys k (Contains-list_any same_key same_key-true keys k has))
    by false has is = absurd cc

pub other_key : (j k : Key) (js : List Key) (i : ℕ) → AllByRecursion (λ y. same_key j y ≡ false) js → slice_get js i ≡ Some k → same_key j k ≡ false
other_key j k [] i apart at = absurd cc
other_key j k (x ∷ xs) zero apart at = let is : x ≡ k = cc in subst (λ y. same_key j y ≡ false) is apart.0
other_key j k (x ∷ xs) (suc i) apart at = other_key j k xs i apart.1 at

number-first : (j k : Key) (js : List Key) → j ≡ k → number_if_any (j ∷ js) k ≡ Some 1
number-first j k js same =
    let there : same_key j k ≡ true = ap (same_key j) (sym same) ∙ same_key-refl j in
    cond-true (same_key k j || has_key js k) _ _ (or_left (same_key k j) (has_key js k) (same_key-turned k j ∙ there))
    ∙ ap Some (cond-true (same_key j k) 1 (number_of js k + 1) there)

number-later : (j k : Key) (js : List Key) (n : ℕ) → same_key j k ≡ false → number_if_any js k ≡ Some n → number_if_any (j ∷ js) k ≡ Some (n + 1)
number-later j k js n apart rest = by (has_key js k) refl rest
  where
    by : (b : Bool) → has_key js k ≡ b → cond b (Some (number_of js k)) None ≡ Some n → number_if_any (j ∷ js) k ≡ Some (n + 1)
    by true has is =
        let same : number_of js k ≡ n = cc in
        cond-true (same_key k j || has_key js k) _ _ (or_right (same_key k j) (has_key js k) has)
        ∙ ap Some (cond-false (same_key j k) 1 (number_of js k + 1) apart ∙ ap (λ (m : ℕ). m + 1) same)
    by false has is = absurd cc

-- the number of the key at a place, where no key stands twice
pub number-placed : (keys : List Key) (i : ℕ) (k : Key) → IsDistinct same_key keys → slice_get keys i ≡ Some k → number_if_any keys k ≡ Some (i + 1)
unfolding IsDistinct
number-placed [] i k distinct at = absurd cc
number-placed (j ∷ js) zero k distinct at = let is : j ≡ k = cc in number-first j k js is
number-placed (j ∷ js) (suc i) k distinct at =
    let e : i + 1 + 1 ≡ suc i + 1 = omega arith in
    number-later j k js (i + 1) (other_key j k js i distinct.0 at) (number-placed js i k distinct.1 at) ∙ ap Some e
