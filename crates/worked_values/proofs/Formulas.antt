-- The cubes and clauses by which a function defines what its output is.
use Rattle.std.proofs.Common.{◌≡◌, ℕ, Bool, true, false, List, [], ◌∷◌, map, refl}
use Rattle.net_model.specs.Form.{PinForm, NotForm, AndForm, OrForm, XorForm, value}
use Rattle.net_model.specs.declared.terns.Tern.{Tern}
use Rattle.net_model.specs.declared.terns.Tern.TheVariants.{Zero, One, Unknown}
use Rattle.query_model.specs.declared.keys.Cube.{Cube}
use Rattle.query_model.specs.declared.keys.KeyLit.{KeyLit}
use Rattle.query_model.specs.Keys.{key, lit, opposite}
use Rattle.query_model.specs.Tables.{row_bits, cube_terns, rows_in, row_cubes, cube_clause}
use Rattle.query_model.specs.Defined.{prime_cubes}

-- a cube that fixes this, on which a function gives that
abbrev cube : List Tern → Bool → Cube
cube fixed value = record { fixed = fixed; value = value }

-- an and of places 0 and 1
abbrev and : (ℕ → Bool) → Bool
and = value (AndForm (PinForm 0) (PinForm 1))

-- an exclusive or of places 0 and 1
abbrev xor : (ℕ → Bool) → Bool
xor = value (XorForm (PinForm 0) (PinForm 1))

-- place 0 is the least bit of a row's number
first_place_is_the_least_bit_of_a_row : row_bits 3 1 ≡ true ∷ false ∷ false ∷ []
first_place_is_the_least_bit_of_a_row = refl

-- a cube's number in base 3: 0 and 1 are fixed, 2 is any
digit_of_a_cube_tells_what_is_fixed : cube_terns 3 7 ≡ One ∷ Unknown ∷ Zero ∷ []
digit_of_a_cube_tells_what_is_fixed = refl

-- a place that is not fixed has both bits
open_place_has_both_bits : rows_in (One ∷ Unknown ∷ []) ≡ (true ∷ false ∷ []) ∷ (true ∷ true ∷ []) ∷ []
open_place_has_both_bits = refl

-- each row of an and, with what it gives
rows_of_an_and_tell_each_value : map (λ (c : Cube). c.value) (row_cubes and 2) ≡ false ∷ false ∷ false ∷ true ∷ []
rows_of_an_and_tell_each_value = refl

-- an and is 0 where either place is, and 1 where both are 1
and_has_three_prime_cubes : prime_cubes and 2 ≡ cube (Unknown ∷ Zero ∷ []) false ∷ cube (One ∷ One ∷ []) true ∷ cube (Zero ∷ Unknown ∷ []) false ∷ []
and_has_three_prime_cubes = refl

-- an exclusive or is constant on its rows alone
xor_has_its_rows_as_prime_cubes : map (λ (c : Cube). c.value) (prime_cubes xor 2) ≡ false ∷ true ∷ true ∷ false ∷ []
xor_has_its_rows_as_prime_cubes = refl

-- a constant has one prime cube, which fixes nothing
constant_has_one_prime_cube : prime_cubes (value (OrForm (PinForm 0) (NotForm (PinForm 0)))) 1 ≡ cube (Unknown ∷ []) true ∷ []
constant_has_one_prime_cube = refl

-- the literal of place 0
abbrev a : KeyLit
a = lit true (key 0 0 0 0)

-- that of place 1
abbrev b : KeyLit
b = lit true (key 0 0 0 1)

-- that of the output
abbrev out : KeyLit
out = lit true (key 0 0 0 2)

-- where both places are 1 the output is 1: not a, or not b, or the output
cube_of_ones_makes_the_output_1 : cube_clause (a ∷ b ∷ []) out (cube (One ∷ One ∷ []) true) ≡ opposite a ∷ opposite b ∷ out ∷ []
cube_of_ones_makes_the_output_1 = refl

-- where place 1 is 0 the output is 0: b, or not the output
cube_of_a_zero_makes_the_output_0 : cube_clause (a ∷ b ∷ []) out (cube (Unknown ∷ Zero ∷ []) false) ≡ b ∷ opposite out ∷ []
cube_of_a_zero_makes_the_output_0 = refl
