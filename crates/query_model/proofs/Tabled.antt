-- Clauses of cubes say that the output has the function's value.
use Rattle.std.proofs.Common.{◌≡◌, ℕ, zero, suc, ◌+◌, ◌*◌, ◌/◌, ◌%◌, ◌^◌, ◌<◌, ◌≤◌, Bool, true, false, not, cond, List, [], ◌∷◌, ◌++◌, map, length}
use Rattle.std.proofs.Common.{refl, ap, sym, ◌∙◌, arith, inl, inr, ◌⊎◌, subst}
use Rattle.std.specs.Prelude.{◌||◌, ◌==◌}
use Rattle.std.proofs.lemmas.List.Folds.{list_any-append}
use Rattle.std.proofs.lemmas.List.{length-map}
use Rattle.std.proofs.lemmas.Bool.{not-true, cases_Bool, or_from, or_left, or_right, eq-eqb, ne_eqb}
use Rattle.std.proofs.Math.Nat.{pow-succ', pow-zero}
use Rattle.net_model.specs.Ternary.{Completes}
use Rattle.net_model.specs.Ternary.{tern_of}
use Rattle.net_model.specs.declared.terns.Tern.{Tern}
use Rattle.net_model.specs.declared.terns.Tern.TheVariants.{Zero, One, Unknown}
use Rattle.query_model.specs.Keys.{lit_value, opposite, flipped, is_true, AllTrue, below}
use Rattle.query_model.specs.Tables.{Cube, on_list, row_bits, row_cube, row_cubes, outside, cube_clause, plain_clauses}
use Rattle.net_model.proofs.Members.{In, In-map, from_map}
use Rattle.query_model.proofs.Members.{In-below, all_true, true_at}
use Rattle.query_model.specs.declared.keys.Key.{Key}
use Rattle.query_model.specs.declared.keys.KeyLit.{KeyLit}

-- the bits lie in the cube
abbrev pub Inside : List Bool → List Tern → Type 0
Inside [] [] = Unit {0}
Inside (b ∷ bs) (t ∷ ts) = Completes t b × Inside bs ts
Inside _ _ = ⊥

-- each cube is right, and each list of bits lies in one
pub record Covers (cell : (ℕ → Bool) → Bool) (places : ℕ) (cubes : List Cube) : Type 0 where
  pub right : (cube : Cube) (bits : List Bool) → In cube cubes → Inside bits cube.fixed → on_list cell bits ≡ cube.value
  pub lens : (cube : Cube) → In cube cubes → length cube.fixed ≡ places
  pub each : (bits : List Bool) → length bits ≡ places → (cube : Cube) × In cube cubes × Inside bits cube.fixed

pub value_opposite : (v : Key → Bool) (l : KeyLit) → lit_value v (opposite l) ≡ not (lit_value v l)
value_opposite v l = by_sign v l.key l.positive where
  by_sign : (v : Key → Bool) (k : Key) (b : Bool) → lit_value v (record { key = k; positive = not b }) ≡ not (lit_value v (record { key = k; positive = b }))
  by_sign v k true = refl
  by_sign v k false = sym (not-not (v k)) where
    not-not : (b : Bool) → not (not b) ≡ b
    not-not true = refl
    not-not false = refl

pub value_flipped : (v : Key → Bool) (b : Bool) (l : KeyLit) → lit_value v (flipped (not b) l) ≡ true → lit_value v l ≡ b
value_flipped v true l e = e
value_flipped v false l e = not-true (lit_value v l) (sym (value_opposite v l) ∙ e)

pub flipped_value : (v : Key → Bool) (b : Bool) (l : KeyLit) → lit_value v l ≡ b → lit_value v (flipped (not b) l) ≡ true
flipped_value v true l e = e
flipped_value v false l e = value_opposite v l ∙ ap not e

or_false : (b : Bool) → (b || false) ≡ b
or_false true = refl
or_false false = refl

pub value_push : (v : Key → Bool) (c : List KeyLit) (l : KeyLit) → is_true v (c ++ l ∷ []) ≡ (is_true v c || lit_value v l)
value_push v c l = list_any-append (lit_value v) c (l ∷ []) ∙ ap (λ b. is_true v c || b) (or_false (lit_value v l))

outside_cons : (v : Key → Bool) (r : KeyLit) (rest : Bool) → lit_value v r ≡ false → rest ≡ false → (lit_value v r || rest) ≡ false
outside_cons v r rest a b = or_from (lit_value v r) rest a b

-- bits that lie in the cube make each literal of `outside` false
pub outside_false : (v : Key → Bool) (reads : List KeyLit) (ts : List Tern) → Inside (map (lit_value v) reads) ts → is_true v (outside reads ts) ≡ false
outside_false v [] [] in' = refl
outside_false v [] (t ∷ ts) in' = refl
outside_false v (r ∷ rs) [] in' = refl
outside_false v (r ∷ rs) (Zero ∷ ts) in' = or_from (lit_value v r) (is_true v (outside rs ts)) in'.0 (outside_false v rs ts in'.1)
outside_false v (r ∷ rs) (One ∷ ts) in' = or_from (lit_value v (opposite r)) (is_true v (outside rs ts)) (value_opposite v r ∙ ap not in'.0)
    (outside_false v rs ts in'.1)
outside_false v (r ∷ rs) (Unknown ∷ ts) in' = outside_false v rs ts in'.1

-- and other bits make one of them true
pub outside_cases : (v : Key → Bool) (reads : List KeyLit) (ts : List Tern) → length ts ≡ length reads
    → (is_true v (outside reads ts) ≡ true) ⊎ Inside (map (lit_value v) reads) ts
outside_cases v [] [] same = inr tt
outside_cases v [] (t ∷ ts) same = absurd (omega arith)
outside_cases v (r ∷ rs) [] same = absurd (omega arith)
outside_cases v (r ∷ rs) (Zero ∷ ts) same =
    elim (cases_Bool (lit_value v r)) [
      | inl here ↦ inl (or_left (lit_value v r) (is_true v (outside rs ts)) here)
      | inr not_here ↦ elim (outside_cases v rs ts (omega arith)) [
        | inl later ↦ inl (or_right (lit_value v r) (is_true v (outside rs ts)) later)
        | inr in' ↦ inr (not_here, in')
      ]
    ]
outside_cases v (r ∷ rs) (One ∷ ts) same =
    elim (cases_Bool (lit_value v r)) [
      | inl here ↦ elim (outside_cases v rs ts (omega arith)) [
        | inl later ↦
            inl (or_right (lit_value v (opposite r)) (is_true v (outside rs ts)) later)
        | inr in' ↦ inr (here, in')
      ]
      | inr not_here ↦ inl (or_left (lit_value v (opposite r)) (is_true v (outside rs ts)) (value_opposite v r ∙ ap not not_here))
    ]
outside_cases v (r ∷ rs) (Unknown ∷ ts) same =
    elim (outside_cases v rs ts (omega arith)) [ inl later ↦ inl later | inr in' ↦ inr (tt, in') ]

-- clauses of cubes that cover a function say that the output has its value
pub plain_says : (v : Key → Bool) (cell : (ℕ → Bool) → Bool) (reads : List KeyLit) (out : KeyLit) (cubes : List Cube)
    → Covers cell (length reads) cubes → AllTrue v (plain_clauses reads out cubes) → lit_value v out ≡ on_list cell (map (lit_value v) reads)
plain_says v cell reads out cubes covers all =
    let hit = covers.each (map (lit_value v) reads) (length-map reads (lit_value v)) in
    let clause = true_at v (plain_clauses reads out cubes) (cube_clause reads out hit.0) all (In-map (cube_clause reads out) hit.0 cubes hit.1) in
    let split = value_push v (outside reads hit.0.fixed) (flipped (not hit.0.value) out) in
    let none = outside_false v reads hit.0.fixed hit.2 in
    let last : lit_value v (flipped (not hit.0.value) out) ≡ true =
    ap (λ b. b || lit_value v (flipped (not hit.0.value) out)) (sym none) ∙ sym split ∙ clause in
    value_flipped v hit.0.value out last ∙ sym (covers.right hit.0 (map (lit_value v) reads) hit.1 hit.2)

pub says_plain : (v : Key → Bool) (cell : (ℕ → Bool) → Bool) (reads : List KeyLit) (out : KeyLit) (cubes : List Cube)
    → Covers cell (length reads) cubes → lit_value v out ≡ on_list cell (map (lit_value v) reads) → AllTrue v (plain_clauses reads out cubes)
says_plain v cell reads out cubes covers is =
    all_true v (plain_clauses reads out cubes)
    (λ c has.
    let from = from_map (cube_clause reads out) c cubes has in
    let cube = from.0 in
    let split = value_push v (outside reads cube.fixed) (flipped (not cube.value) out) in
    let holds : is_true v (cube_clause reads out cube) ≡ true =
    elim (outside_cases v reads cube.fixed (covers.lens cube from.1)) [
      | inl some ↦ split ∙ or_left (is_true v (outside reads cube.fixed)) (lit_value v (flipped (not cube.value) out)) some
      | inr in' ↦ split ∙ or_right (is_true v (outside reads cube.fixed)) (lit_value v (flipped (not cube.value) out))
          (flipped_value v cube.value out (is ∙ covers.right cube (map (lit_value v) reads) from.1 in'))
    ] in
    subst (λ d. is_true v d ≡ true) from.2 holds)

-- rows
abbrev pub number_of : List Bool → ℕ
number_of [] = 0
number_of (b ∷ bs) = cond {A = ℕ} b 1 0 + 2 * number_of bs

one_bit : (b : Bool) (n : ℕ) → (((cond {A = ℕ} b 1 0 + 2 * n) % 2 == 1) ≡ b) × ((cond {A = ℕ} b 1 0 + 2 * n) / 2 ≡ n)
one_bit true n = (eq-eqb ((1 + 2 * n) % 2) 1 (omega arith), omega arith)
one_bit false n = (ne_eqb ((0 + 2 * n) % 2) 1 (λ e. omega arith), omega arith)

pub row_of_number : (bits : List Bool) → row_bits (length bits) (number_of bits) ≡ bits
row_of_number [] = refl
row_of_number (b ∷ bs) =
    let parts = one_bit b (number_of bs) in
    ap (λ (x : Bool). x ∷ row_bits (length bs) (number_of (b ∷ bs) / 2)) parts.0 ∙ ap (λ (n : ℕ). b ∷ row_bits (length bs) n) parts.1
    ∙ ap (λ (xs : List Bool). b ∷ xs) (row_of_number bs)

bit_small : (b : Bool) → cond {A = ℕ} b 1 0 ≤ 1
bit_small true = omega arith
bit_small false = omega arith

pub number_less : (bits : List Bool) → number_of bits < 2 ^ length bits
number_less [] = omega (arith, pow-zero 2)
number_less (b ∷ bs) = omega (arith, number_less bs, bit_small b, pow-succ' 2 (length bs))

pub inside_bits : (bits row : List Bool) → Inside bits (map tern_of row) → bits ≡ row
inside_bits [] [] in' = refl
inside_bits [] (r ∷ rs) in' = absurd in'
inside_bits (b ∷ bs) [] in' = absurd in'
inside_bits (b ∷ bs) (true ∷ rs) in' = ap (λ (x : Bool). x ∷ bs) in'.0 ∙ ap (λ (xs : List Bool). true ∷ xs) (inside_bits bs rs in'.1)
inside_bits (b ∷ bs) (false ∷ rs) in' = ap (λ (x : Bool). x ∷ bs) in'.0 ∙ ap (λ (xs : List Bool). false ∷ xs) (inside_bits bs rs in'.1)

pub bits_inside : (bits : List Bool) → Inside bits (map tern_of bits)
bits_inside [] = tt
bits_inside (true ∷ bs) = (refl, bits_inside bs)
bits_inside (false ∷ bs) = (refl, bits_inside bs)

length-row_bits : (p w : ℕ) → length (row_bits p w) ≡ p
length-row_bits zero w = refl
length-row_bits (suc p) w = omega (arith, length-row_bits p (w / 2))

pub rows_cover : (cell : (ℕ → Bool) → Bool) (places : ℕ) → Covers cell places (row_cubes cell places)
rows_cover cell places =
    record {
      right = λ cube bits has in'.
          let from = from_map (row_cube cell places) cube (below (2 ^ places)) has in
          let same : bits ≡ row_bits places from.0 = inside_bits bits (row_bits places from.0) (subst (λ (c : Cube). Inside bits c.fixed) (sym from.2) in') in
          ap (on_list cell) same ∙ ap (λ (c : Cube). c.value) from.2;
      lens = λ cube has.
          let from = from_map (row_cube cell places) cube (below (2 ^ places)) has in
          sym (ap (λ (c : Cube). length c.fixed) from.2) ∙ length-map (row_bits places from.0) tern_of ∙ length-row_bits places from.0;
      each = λ bits len.
          let w = number_of bits in
          let small : w < 2 ^ places = subst (λ n. w < 2 ^ n) len (number_less bits) in
          let same : row_bits places w ≡ bits = subst (λ n. row_bits n w ≡ bits) len (row_of_number bits) in (
            row_cube cell places w,
            In-map (row_cube cell places) w (below (2 ^ places)) (In-below (2 ^ places) w small),
            subst (λ xs. Inside bits (map tern_of xs)) (sym same) (bits_inside bits),
          );
    }
