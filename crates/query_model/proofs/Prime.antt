-- Each constant cube lies in a prime one.
use Rattle.std.proofs.Common.{◌≡◌, ℕ, zero, suc, ◌+◌, ◌<◌, ◌≤◌, Bool, true, false, not, cond, List, [], ◌∷◌, refl, ap, sym, ◌∙◌, arith, inl, inr, subst}
use Rattle.std.specs.Prelude.{◌&&◌, filter}
use Rattle.std.specs.List.{list_any}
use Rattle.std.proofs.lemmas.Bool.{or_cases, and_parts, and_from, and_cases, cases_Bool, not-true, not-false}
use Rattle.net_model.specs.Ternary.{Completes}
use Rattle.net_model.specs.declared.terns.Tern.{Tern}
use Rattle.net_model.specs.declared.terns.Tern.TheVariants.{Zero, One, Unknown}
use Rattle.query_model.specs.Tables.{Cube, constant_cubes}
use Rattle.query_model.specs.Defined.{lies_in, tern_within, is_prime, prime_cubes}
use Rattle.net_model.proofs.Members.{In}
use Rattle.query_model.proofs.Tabled.{Inside}

within_trans : (s t u : Tern) → tern_within s t ≡ true → tern_within t u ≡ true → tern_within s u ≡ true
within_trans Zero Zero u a b = b
within_trans One One u a b = b
within_trans s Unknown Unknown a b = refl_unknown s where
  refl_unknown : (s : Tern) → tern_within s Unknown ≡ true
  refl_unknown Zero = refl
  refl_unknown One = refl
  refl_unknown Unknown = refl
within_trans s Unknown Zero a b = absurd cc
within_trans s Unknown One a b = absurd cc
within_trans Zero One u a b = absurd cc
within_trans One Zero u a b = absurd cc
within_trans Unknown Zero u a b = absurd cc
within_trans Unknown One u a b = absurd cc

lies_trans : (a b c : List Tern) → lies_in a b ≡ true → lies_in b c ≡ true → lies_in a c ≡ true
lies_trans [] [] c e f = f
lies_trans [] (y ∷ b) c e f = absurd cc
lies_trans (x ∷ a) [] c e f = absurd cc
lies_trans (x ∷ a) (y ∷ b) [] e f = absurd cc
lies_trans (x ∷ a) (y ∷ b) (z ∷ c) e f =
    let p = and_parts (tern_within x y) (lies_in a b) e in
    let q = and_parts (tern_within y z) (lies_in b c) f in
    and_from (tern_within x z) (lies_in a c) (within_trans x y z p.0 q.0) (lies_trans a b c p.1 q.1)

pub within_refl : (t : Tern) → tern_within t t ≡ true
within_refl Zero = refl
within_refl One = refl
within_refl Unknown = refl

pub lies_refl : (a : List Tern) → lies_in a a ≡ true
lies_refl [] = refl
lies_refl (x ∷ a) = and_from (tern_within x x) (lies_in a a) (within_refl x) (lies_refl a)

-- how many places are fixed
abbrev pub fixes : Tern → ℕ
fixes Zero = 1
fixes One = 1
fixes Unknown = 0

abbrev pub fixed_count : List Tern → ℕ
fixed_count [] = 0
fixed_count (t ∷ ts) = fixes t + fixed_count ts

fewer_one : (s t : Tern) → tern_within s t ≡ true → (fixes t ≤ fixes s) × (tern_within t s ≡ false → fixes t < fixes s)
fewer_one Zero Zero e = (omega arith, λ f. absurd cc)
fewer_one One One e = (omega arith, λ f. absurd cc)
fewer_one Zero Unknown e = (omega arith, λ f. omega arith)
fewer_one One Unknown e = (omega arith, λ f. omega arith)
fewer_one Unknown Unknown e = (omega arith, λ f. absurd cc)
fewer_one Zero One e = absurd cc
fewer_one One Zero e = absurd cc
fewer_one Unknown Zero e = absurd cc
fewer_one Unknown One e = absurd cc

fewer : (a b : List Tern) → lies_in a b ≡ true → (fixed_count b ≤ fixed_count a) × (lies_in b a ≡ false → fixed_count b < fixed_count a)
fewer [] [] e = (omega arith, λ f. absurd cc)
fewer [] (y ∷ b) e = absurd cc
fewer (x ∷ a) [] e = absurd cc
fewer (x ∷ a) (y ∷ b) e =
    let p = and_parts (tern_within x y) (lies_in a b) e in
    let one = fewer_one x y p.0 in
    let rest = fewer a b p.1 in (
      omega (arith, one.0, rest.0),
      λ f. elim (and_cases (tern_within y x) (lies_in b a) f) [
        | inl here ↦ omega (arith, one.1 here, rest.0)
        | inr later ↦ omega (arith, one.0, rest.1 later)
      ],
    )

pub found_any : {X : Type 0} (p : X → Bool) (xs : List X) → list_any p xs ≡ true → (x : X) × In x xs × (p x ≡ true)
found_any p [] e = cc
found_any p (x ∷ xs) e =
    elim (or_cases (p x) (list_any p xs) e) [
      | inl here ↦ (x, inl refl, here)
      | inr later ↦ let more = found_any p xs later in (more.0, inr more.1, more.2)
    ]

pub from_filter : {X : Type 0} (p : X → Bool) (x : X) (xs : List X) → In x (filter p xs) → In x xs × (p x ≡ true)
from_filter p x [] has = absurd has
from_filter {X} p x (y ∷ ys) has = by_test (p y) refl has (from_filter p x ys)
  where
    by_test : (b : Bool) → p y ≡ b → In x (cond b (y ∷ filter p ys) (filter p ys)) → (In x (filter p ys) → In x ys × (p x ≡ true)) → In x (y ∷ ys)
        × (p x ≡ true)
    by_test true e (inl here) rest = (inl here, ap p (sym here) ∙ e)
    by_test true e (inr later) rest = let more = rest later in (inr more.0, more.1)
    by_test false e later rest = let more = rest later in (inr more.0, more.1)

pub in_filter : {X : Type 0} (p : X → Bool) (x : X) (xs : List X) → In x xs → p x ≡ true → In x (filter p xs)
in_filter p x [] has e = has
in_filter p x (y ∷ ys) (inl here) e =
    subst (λ (b : Bool). In x (cond b (y ∷ filter p ys) (filter p ys))) (sym (ap p here ∙ e)) (inl here)
in_filter p x (y ∷ ys) (inr later) e = by_test (p y) (in_filter p x ys later e) where
  by_test : (b : Bool) → In x (filter p ys) → In x (cond b (y ∷ filter p ys) (filter p ys))
  by_test true there = inr there
  by_test false there = there

-- by the number of fixed places
climbs : (cubes : List Cube) (n : ℕ) (cube : Cube) → fixed_count cube.fixed < n → In cube cubes → (e : Cube) × In e (filter (is_prime cubes) cubes)
    × (lies_in cube.fixed e.fixed ≡ true)
climbs cubes zero cube lt has = absurd (omega arith)
climbs cubes (suc n) cube lt has =
    elim (cases_Bool (is_prime cubes cube)) [
      | inl prime ↦ (cube, in_filter (is_prime cubes) cube cubes has prime, lies_refl cube.fixed)
      | inr larger ↦
          let test : Cube → Bool = λ e. lies_in cube.fixed e.fixed && not (lies_in e.fixed cube.fixed) in
          let found = found_any test cubes (not-false (list_any test cubes) larger) in
          let parts = and_parts (lies_in cube.fixed found.0.fixed) (not (lies_in found.0.fixed cube.fixed)) found.2 in
          let less = (fewer cube.fixed found.0.fixed parts.0).1 (not-true (lies_in found.0.fixed cube.fixed) parts.1) in
          let more = climbs cubes n found.0 (omega (arith, less)) found.1 in
          (more.0, more.1, lies_trans cube.fixed found.0.fixed more.0.fixed parts.0 more.2)
    ]

pub in_prime : (cell : (ℕ → Bool) → Bool) (places : ℕ) (cube : Cube) → In cube (constant_cubes cell places) → (e : Cube)
    × In e (prime_cubes cell places) × (lies_in cube.fixed e.fixed ≡ true)
in_prime cell places cube has = climbs (constant_cubes cell places) (fixed_count cube.fixed + 1) cube (omega arith) has

-- what lies in a cube lies in each that it lies in
complete_within : (s t : Tern) (b : Bool) → tern_within s t ≡ true → Completes s b → Completes t b
complete_within Zero Zero b e c = c
complete_within One One b e c = c
complete_within s Unknown b e c = tt
complete_within Zero One b e c = absurd cc
complete_within One Zero b e c = absurd cc
complete_within Unknown Zero b e c = absurd cc
complete_within Unknown One b e c = absurd cc

pub inside_within : (bits : List Bool) (a b : List Tern) → lies_in a b ≡ true → Inside bits a → Inside bits b
inside_within [] [] [] e i = tt
inside_within [] [] (y ∷ b) e i = absurd cc
inside_within [] (x ∷ a) b e i = absurd i
inside_within (z ∷ bits) [] b e i = absurd i
inside_within (z ∷ bits) (x ∷ a) [] e i = absurd cc
inside_within (z ∷ bits) (x ∷ a) (y ∷ b) e i =
    let p = and_parts (tern_within x y) (lies_in a b) e in (complete_within x y z p.0 i.0, inside_within bits a b p.1 i.1)
