-- A prime cube fixes a place exactly where the function depends on it.
use Rattle.std.proofs.Common.{◌≡◌, ℕ, zero, suc, Bool, true, false, not, List, [], ◌∷◌, map, length, refl, ap, sym, ◌∙◌, arith, inl, inr, ◌⊎◌, subst}
use Rattle.std.specs.Prelude.{◌&&◌, ◌↔◌}
use Rattle.std.specs.List.{list_any}
use Rattle.std.proofs.lemmas.List.{length-map}
use Rattle.std.proofs.lemmas.Bool.{cases_Bool, and_from, not-true, or_left, or_right}
use Rattle.net_model.specs.Ternary.{tern_of}
use Rattle.net_model.proofs.Members.{In, In-from_Contains, Contains-from_In}
use Rattle.net_model.specs.declared.terns.Tern.{Tern}
use Rattle.net_model.specs.declared.terns.Tern.TheVariants.{Zero, One, Unknown}
use Rattle.query_model.specs.Tables.{Cube, on_list, constant_cubes, rows_in, gives}
use Rattle.query_model.specs.Defined.{lies_in, tern_within, is_prime, prime_cubes}
use Rattle.query_model.specs.Depends.{other_bit, IsFixedAt, DependsOn, IsFixedBySome}
use Rattle.query_model.proofs.Tabled.{Inside, bits_inside, inside_bits}
use Rattle.query_model.proofs.Prime.{in_prime, inside_within, from_filter, lies_refl, found_any, within_refl}
use Rattle.query_model.proofs.Codings.{IsConstantOn, from_constant, constant_in, row_inside, in_rows, each_this}

length_inside : (bits : List Bool) (ts : List Tern) → Inside bits ts → length bits ≡ length ts
length_inside [] [] e = refl
length_inside [] (t ∷ ts) e = absurd e
length_inside (b ∷ bs) [] e = absurd e
length_inside (b ∷ bs) (t ∷ ts) e = omega (arith, length_inside bs ts e.1)

-- the cube without what it fixes at a place
abbrev pub freed : ℕ → List Tern → List Tern
freed i [] = []
freed zero (t ∷ ts) = Unknown ∷ ts
freed (suc i) (t ∷ ts) = t ∷ freed i ts

length-freed : (i : ℕ) (ts : List Tern) → length (freed i ts) ≡ length ts
length-freed i [] = refl
length-freed zero (t ∷ ts) = refl
length-freed (suc i) (t ∷ ts) = omega (arith, length-freed i ts)

within_unknown : (t : Tern) → tern_within t Unknown ≡ true
within_unknown Zero = refl
within_unknown One = refl
within_unknown Unknown = refl

-- a cube lies in it, and where it fixes the place it is smaller
lies_freed : (i : ℕ) (ts : List Tern) → lies_in ts (freed i ts) ≡ true
lies_freed i [] = refl
lies_freed zero (t ∷ ts) = and_from (tern_within t Unknown) (lies_in ts ts) (within_unknown t) (lies_refl ts)
lies_freed (suc i) (t ∷ ts) = and_from (tern_within t t) (lies_in ts (freed i ts)) (within_refl t) (lies_freed i ts)

not_back : (i : ℕ) (ts : List Tern) → IsFixedAt ts i → lies_in (freed i ts) ts ≡ false
not_back i [] f = absurd f
not_back zero (Zero ∷ ts) f = refl
not_back zero (One ∷ ts) f = refl
not_back zero (Unknown ∷ ts) f = absurd f
not_back (suc i) (t ∷ ts) f = ap (λ b. b && lies_in (freed i ts) ts) (within_refl t) ∙ not_back i ts f

-- bits in the freed cube that are not in the cube come into it with the other bit at the place
comes_in : (i : ℕ) (ts : List Tern) (bits : List Bool) → IsFixedAt ts i → Inside bits (freed i ts) → (Inside bits ts → ⊥) → Inside (other_bit i bits) ts
comes_in i [] bits f a out = absurd f
comes_in zero (t ∷ ts) [] f a out = absurd a
comes_in zero (Zero ∷ ts) (true ∷ bs) f a out = (refl, a.1)
comes_in zero (Zero ∷ ts) (false ∷ bs) f a out = absurd (out (refl, a.1))
comes_in zero (One ∷ ts) (false ∷ bs) f a out = (refl, a.1)
comes_in zero (One ∷ ts) (true ∷ bs) f a out = absurd (out (refl, a.1))
comes_in zero (Unknown ∷ ts) (b ∷ bs) f a out = absurd f
comes_in (suc i) (t ∷ ts) [] f a out = absurd a
comes_in (suc i) (t ∷ ts) (b ∷ bs) f a out = (a.0, comes_in i ts bs f a.1 (λ in'. out (a.0, in')))

-- a place that a cube leaves open may have the other bit
stays_in : (i : ℕ) (ts : List Tern) (bits : List Bool) → (IsFixedAt ts i → ⊥) → Inside bits ts → Inside (other_bit i bits) ts
stays_in i [] [] f a = a
stays_in i [] (b ∷ bs) f a = absurd a
stays_in i (t ∷ ts) [] f a = absurd a
stays_in zero (Zero ∷ ts) (b ∷ bs) f a = absurd (f tt)
stays_in zero (One ∷ ts) (b ∷ bs) f a = absurd (f tt)
stays_in zero (Unknown ∷ ts) (b ∷ bs) f a = (tt, a.1)
stays_in (suc i) (t ∷ ts) (b ∷ bs) f a = (a.0, stays_in i ts bs f a.1)

fixed_or : (i : ℕ) (ts : List Tern) → IsFixedAt ts i ⊎ (IsFixedAt ts i → ⊥)
fixed_or i [] = inr (λ f. f)
fixed_or zero (Zero ∷ ts) = inl tt
fixed_or zero (One ∷ ts) = inl tt
fixed_or zero (Unknown ∷ ts) = inr (λ f. f)
fixed_or (suc i) (t ∷ ts) = fixed_or i ts

-- where a function depends on a place, some prime cube fixes it
pub depends_fixed : (cell : (ℕ → Bool) → Bool) (places i : ℕ) → DependsOn cell places i → (e : Cube) × In e (prime_cubes cell places) × IsFixedAt e.fixed i
depends_fixed cell places i dep =
    let row = dep.row in
    let ts : List Tern = map tern_of row in
    let size : length ts ≡ places = length-map row tern_of ∙ dep.len in
    let there = constant_in cell ts (on_list cell row) (λ other in'. ap (on_list cell) (inside_bits other row in')) in
    let found = in_prime cell (length ts) (record { fixed = ts; value = on_list cell row }) there in
    let prime = subst (λ n. In found.0 (prime_cubes cell n)) size found.1 in
    let inside = inside_within row ts found.0.fixed found.2 (bits_inside row) in
    let constant = from_constant cell places found.0 (from_filter (is_prime (constant_cubes cell places)) found.0 (constant_cubes cell places) prime).0 in
    elim (fixed_or i found.0.fixed) [
      | inl fixed ↦ (found.0, prime, fixed)
      | inr open_ ↦ absurd (dep.differs (constant.right row inside ∙ sym (constant.right (other_bit i row) (stays_in i found.0.fixed row open_ inside))))
    ]

any_true : {X : Type 0} (p : X → Bool) (x : X) (xs : List X) → In x xs → p x ≡ true → list_any p xs ≡ true
any_true p x [] has e = absurd has
any_true p x (y ∷ ys) (inl here) e = or_left (p y) (list_any p ys) (ap p here ∙ e)
any_true p x (y ∷ ys) (inr later) e = or_right (p y) (list_any p ys) (any_true p x ys later e)

apart : (b : Bool) → b ≡ not b → ⊥
apart true e = cc
apart false e = cc

given_bit : (cell : (ℕ → Bool) → Bool) (b : Bool) (row : List Bool) → gives cell b row ≡ true → on_list cell row ≡ b
given_bit cell true row e = e
given_bit cell false row e = not-true (on_list cell row) e

-- and the function depends on each place that a prime cube fixes
pub fixed_depends : (cell : (ℕ → Bool) → Bool) (places i : ℕ) (e : Cube) → In e (prime_cubes cell places) → IsFixedAt e.fixed i → DependsOn cell places i
fixed_depends cell places i e has fixed =
    let all : List Cube = constant_cubes cell places in
    let parts = from_filter (is_prime all) e all has in
    let constant = from_constant cell places e parts.0 in
    let fs : List Tern = freed i e.fixed in
    let size : length fs ≡ places = length-freed i e.fixed ∙ constant.len in
    elim (cases_Bool (list_any (gives cell (not e.value)) (rows_in fs))) [
      | inl some ↦
          let found = found_any (gives cell (not e.value)) (rows_in fs) some in
          let inside = row_inside fs found.0 found.1 in
          let other : on_list cell found.0 ≡ not e.value = given_bit cell (not e.value) found.0 found.2 in
          let out : Inside found.0 e.fixed → ⊥ = λ in'. apart e.value (sym (constant.right found.0 in') ∙ other) in
          let back : on_list cell (other_bit i found.0) ≡ e.value = constant.right (other_bit i found.0) (comes_in i e.fixed found.0 fixed inside out) in
          record { row = found.0; len = length_inside found.0 fs inside ∙ size; differs = λ same. apart e.value (sym back ∙ sym same ∙ other) }
      | inr none ↦
          let whole : IsConstantOn cell fs e.value = λ bits inside. each_this cell e.value (rows_in fs) none bits (in_rows bits fs inside) in
          let larger : Cube = record { fixed = fs; value = e.value } in
          let there : In larger all = subst (λ n. In larger (constant_cubes cell n)) size (constant_in cell fs e.value whole) in
          let test : Cube → Bool = λ d. lies_in e.fixed d.fixed && not (lies_in d.fixed e.fixed) in
          let hit : test larger ≡ true = and_from (lies_in e.fixed fs) (not (lies_in fs e.fixed)) (lies_freed i e.fixed) (ap not (not_back i e.fixed fixed)) in
          let any : list_any test all ≡ true = any_true test larger all there hit in
          absurd (no (sym (ap not any) ∙ parts.1))
    ]
  where
    no : false ≡ true → ⊥
    no e = cc

-- so a place is fixed by some prime cube exactly where the function depends on it
pub fixed_where_depends : (cell : (ℕ → Bool) → Bool) (places i : ℕ) → (DependsOn cell places i ↔ IsFixedBySome cell places i)
fixed_where_depends cell places i = (
  λ dep. let found = depends_fixed cell places i dep in (found.0, Contains-from_In (prime_cubes cell places) found.0 found.1, found.2),
  λ some. fixed_depends cell places i some.0 (In-from_Contains (prime_cubes cell places) some.0 some.1) some.2,
)
