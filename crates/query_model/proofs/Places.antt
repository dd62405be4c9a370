-- A key's number is its place in the list, and values of needed keys are values of variables.
use Rattle.std.proofs.Common.{◌≡◌, ℕ, suc, ◌+◌, ◌-◌, ◌≤◌, Bool, true, false, cond, List, [], ◌∷◌, Option, Some, None, ap, sym, ◌∙◌, arith, inl, inr, ◌⊎◌}
use Rattle.std.specs.Prelude.{slice_get, ◌==◌, ◌&&◌}
use Rattle.std.proofs.lemmas.Bool.{and_parts, eqb-true, cases_Bool}
use Rattle.query_model.specs.Keys.{key}
use Rattle.query_model.specs.Formula.{same_key}
use Rattle.query_model.specs.Variables.{number_of, by_number}
use Rattle.net_model.proofs.Members.{In}
use Rattle.query_model.proofs.Needs.{same_key-refl}
use Rattle.query_model.specs.declared.keys.Key.{Key}

key_is : (a b : Key) → a.cycle ≡ b.cycle → a.layer ≡ b.layer → a.rail ≡ b.rail → a.point ≡ b.point → a ≡ b
key_is a b c l r p =
    ap (λ x. key x a.layer a.rail a.point) c ∙ ap (λ x. key b.cycle x a.rail a.point) l ∙ ap (λ x. key b.cycle b.layer x a.point) r
    ∙ ap (λ x. key b.cycle b.layer b.rail x) p

pub same_key-true : (a b : Key) → same_key a b ≡ true → a ≡ b
same_key-true a b e =
    let p = and_parts (a.cycle == b.cycle) ((a.layer == b.layer) && ((a.rail == b.rail) && (a.point == b.point))) e in
    let q = and_parts (a.layer == b.layer) ((a.rail == b.rail) && (a.point == b.point)) p.1 in
    let r = and_parts (a.rail == b.rail) (a.point == b.point) q.1 in
    key_is a b (eqb-true a.cycle b.cycle p.0) (eqb-true a.layer b.layer q.0) (eqb-true a.rail b.rail r.0) (eqb-true a.point b.point r.1)

number_some : (keys : List Key) (k : Key) → 1 ≤ number_of keys k
number_some [] k = omega arith
number_some (j ∷ js) k = by_test (same_key j k) where
  by_test : (b : Bool) → 1 ≤ cond b 1 (number_of js k + 1)
  by_test true = omega arith
  by_test false = omega arith

-- the key at a variable's place
pub at_number : (keys : List Key) (k : Key) → In k keys → slice_get keys (number_of keys k - 1) ≡ Some k
at_number [] k has = absurd has
at_number (j ∷ js) k has =
    elim (cases_Bool (same_key j k)) [
      | inl same ↦
          let one : number_of (j ∷ js) k ≡ 1 = ap (λ b. cond {A = ℕ} b 1 (number_of js k + 1)) same in
          ap (λ n. slice_get (j ∷ js) (n - 1)) one ∙ ap Some (same_key-true j k same)
      | inr other ↦
          let next : number_of (j ∷ js) k ≡ number_of js k + 1 = ap (λ b. cond {A = ℕ} b 1 (number_of js k + 1)) other in
          let some = number_some js k in
          let place : number_of (j ∷ js) k - 1 ≡ suc (number_of js k - 1) = omega arith in
          ap (slice_get (j ∷ js)) place ∙ at_number js k (later has other)
    ] where
      later : (j ≡ k) ⊎ In k js → same_key j k ≡ false → In k js
      later (inl here) other = let same : same_key j k ≡ true = ap (same_key j) (sym here) ∙ same_key-refl j in absurd cc
      later (inr there) other = there

abbrev pub value_of : (Key → Bool) → Option Key → Bool
value_of w None = false
value_of w (Some k) = w k

-- values of variables from values of keys
abbrev pub by_key : List Key → (Key → Bool) → ℕ → Bool
by_key keys w n = value_of w (slice_get keys (n - 1))

pub by_key_number : (keys : List Key) (w : Key → Bool) (k : Key) → In k keys → by_number keys (by_key keys w) k ≡ w k
by_key_number keys w k has = ap (value_of w) (at_number keys k has)
