-- The values of all rows, and the rows as cubes.
use Rattle.std.proofs.Common.{◌≡◌, ℕ, zero, suc, ◌+◌, ◌-◌, ◌/◌, ◌%◌, ◌^◌, ◌<◌, Bool, List, [], ◌∷◌, ◌++◌, map, length, refl, ap, sym, ◌∙◌, arith, inl, inr}
use Rattle.std.proofs.Common.{add-one, append_assoc}
use Rattle.std.specs.Prelude.{◌==◌, slice_index_or}
use Rattle.std.proofs.Math.ListN.{get_or-append}
use Rattle.std.proofs.lemmas.List.{get_or_push, length-map}
use Rattle.std.proofs.lemmas.Bool.{cases_lt}
use Rattle.net_model.specs.Ternary.{tern_of}
use Rattle.net_model.specs.declared.terns.Tern.{Tern}
use Rattle.query_model.specs.Keys.{below}
use Rattle.query_model.specs.declared.keys.Cube.{Cube}
use Rattle.query_model.specs.Tables.{on_list, row_bits, row_cube}

map_push : {X A : Type 0} (f : X → A) (xs : List X) (x : X) → map f (xs ++ x ∷ []) ≡ map f xs ++ f x ∷ []
map_push f [] x = refl
map_push f (y ∷ ys) x = ap (λ zs. f y ∷ zs) (map_push f ys x)

pub length-below : (n : ℕ) → length (below n) ≡ n
length-below zero = refl
length-below (suc n) = omega (arith, length-below n, Rattle.std.proofs.lemmas.List.length-append (below n) (n ∷ []))

-- one more number
pub mapped_more : {A : Type 0} (f : ℕ → A) (w : ℕ) → map f (below (w + 1)) ≡ map f (below w) ++ f w ∷ []
mapped_more f w = ap (λ n. map f (below n)) (add-one w) ∙ map_push f (below w) w

pub length-mapped : {A : Type 0} (f : ℕ → A) (n : ℕ) → length (map f (below n)) ≡ n
length-mapped f n = length-map (below n) f ∙ length-below n

pub mapped_at : {A : Type 0} (f : ℕ → A) (n w : ℕ) (z : A) → w < n → slice_index_or (map f (below n)) w z ≡ f w
mapped_at {A} f zero w z lt = absurd (omega arith)
mapped_at {A} f (suc n) w z lt =
    ap (λ (xs : List A). slice_index_or xs w z) (map_push f (below n) n) ∙ elim (cases_lt w n) [
      | inl less ↦
          get_or-append (map f (below n)) (f n ∷ []) z w (omega (arith, length-mapped f n)) ∙ mapped_at f n w z less
      | inr more ↦
          let e : n ≡ w = omega arith in
          get_or_push (map f (below n)) (f n) z w (length-mapped f n ∙ e) ∙ ap f e
    ]

-- one more bit of a number, as a value
pub terns_more : (fixed whole : List Tern) (left rest : ℕ) → 0 < left → fixed ++ map tern_of (row_bits left rest) ≡ whole
    → (fixed ++ tern_of (rest % 2 == 1) ∷ []) ++ map tern_of (row_bits (left - 1) (rest / 2)) ≡ whole
terns_more fixed whole zero rest h e = absurd (omega arith)
terns_more fixed whole (suc left) rest h e =
    let less : suc left - 1 ≡ left = omega arith in
    ap (λ n. (fixed ++ tern_of (rest % 2 == 1) ∷ []) ++ map tern_of (row_bits n (rest / 2))) less
    ∙ append_assoc fixed (tern_of (rest % 2 == 1) ∷ []) (map tern_of (row_bits left (rest / 2))) ∙ e

-- the values of all rows
abbrev pub values_of : ((ℕ → Bool) → Bool) → ℕ → List Bool
values_of cell places = map (λ w. on_list cell (row_bits places w)) (below (2 ^ places))

pub length-values : (cell : (ℕ → Bool) → Bool) (places : ℕ) → length (values_of cell places) ≡ 2 ^ places
length-values cell places = length-mapped (λ n. on_list cell (row_bits places n)) (2 ^ places)

pub value_at : (cell : (ℕ → Bool) → Bool) (places w : ℕ) (z : Bool) → w < 2 ^ places → slice_index_or (values_of cell places) w z ≡ on_list cell (row_bits places w)
value_at cell places w z lt = mapped_at (λ n. on_list cell (row_bits places n)) (2 ^ places) w z lt

-- one more row, with its value
pub cubes_more : (cell : (ℕ → Bool) → Bool) (places w : ℕ) (found new : List Cube) (fixed : List Tern) (bit : Bool) (values : List Bool)
    → values ≡ values_of cell places → w < 2 ^ places → fixed ≡ map tern_of (row_bits places w) → bit ≡ slice_index_or values w bit
    → found ≡ map (row_cube cell places) (below w) → new ≡ found ++ record { fixed = fixed; value = bit } ∷ []
    → new ≡ map (row_cube cell places) (below (w + 1))
cubes_more cell places w found new fixed bit values are lt bits at before push =
    let is : bit ≡ on_list cell (row_bits places w) = at ∙ ap (λ (vs : List Bool). slice_index_or vs w bit) are ∙ value_at cell places w bit lt in
    push ∙ ap (λ (cs : List Cube). cs ++ record { fixed = fixed; value = bit } ∷ []) before
    ∙ ap (λ (ts : List Tern). map (row_cube cell places) (below w) ++ record { fixed = ts; value = bit } ∷ []) bits
    ∙ ap (λ (b : Bool). map (row_cube cell places) (below w) ++ record { fixed = map tern_of (row_bits places w); value = b } ∷ []) is
    ∙ sym (mapped_more (row_cube cell places) w)
