-- Cubes, and the clauses by which a function defines a key.
use Rattle.std.specs.Prelude.{ℕ, zero, suc, ◌/◌, ◌%◌, ◌^◌, ◌==◌, Bool, true, false, not, List, [], ◌∷◌, ◌++◌, map, slice_index_or}
use Rattle.std.specs.Prelude.{flat_map, if◌then◌else◌}
use Rattle.std.specs.List.{list_any}
use Rattle.net_model.specs.Ternary.{tern_of}
use Rattle.net_model.specs.declared.terns.Tern.{Tern}
use Rattle.net_model.specs.declared.terns.Tern.TheVariants.{Zero, One, Unknown}
use Rattle.query_model.specs.Keys.{opposite, flipped, below}
use Rattle.query_model.specs.declared.keys.KeyLit.{KeyLit}
pub use Rattle.query_model.specs.declared.keys.Cube.{Cube}

-- a cell: what it gives on the bits of its places
abbrev pub on_list : ((ℕ → Bool) → Bool) → List Bool → Bool
on_list cell bits = cell (λ i. slice_index_or bits i false)

-- place i of row w is bit i of w
abbrev pub row_bits : ℕ → ℕ → List Bool
row_bits zero w = []
row_bits (suc places) w = (w % 2 == 1) ∷ row_bits places (w / 2)

-- row w, with what the function gives there
abbrev pub row_cube : ((ℕ → Bool) → Bool) → ℕ → ℕ → Cube
row_cube cell places w =
    record { fixed = map tern_of (row_bits places w); value = on_list cell (row_bits places w) }

-- all rows of a function, as cubes that fix each place
abbrev pub row_cubes : ((ℕ → Bool) → Bool) → ℕ → List Cube
row_cubes cell places = map (row_cube cell places) (below (2 ^ places))

-- digit i in base 3 of the number of a cube tells what is known of place i
abbrev pub digit_tern : ℕ → Tern
digit_tern zero = Zero
digit_tern (suc zero) = One
digit_tern (suc (suc n)) = Unknown

-- what cube w fixes at each place
abbrev pub cube_terns : ℕ → ℕ → List Tern
cube_terns zero w = []
cube_terns (suc places) w = digit_tern (w % 3) ∷ cube_terns places (w / 3)

-- the rows in a cube: a place that it fixes has that bit, and any other place either bit
abbrev pub rows_in : List Tern → List (List Bool)
rows_in [] = [] ∷ []
rows_in (Zero ∷ ts) = map (λ row. false ∷ row) (rows_in ts)
rows_in (One ∷ ts) = map (λ row. true ∷ row) (rows_in ts)
rows_in (Unknown ∷ ts) = map (λ row. false ∷ row) (rows_in ts) ++ map (λ row. true ∷ row) (rows_in ts)

-- the function gives this bit in a row
abbrev pub gives : ((ℕ → Bool) → Bool) → Bool → List Bool → Bool
gives cell true row = on_list cell row
gives cell false row = not (on_list cell row)

-- the cube with this bit, unless the function gives the other bit in some row of it
abbrev pub cube_with : ((ℕ → Bool) → Bool) → List Tern → Bool → List Cube
cube_with cell terns bit = if list_any (gives cell (not bit)) (rows_in terns) then [] else record { fixed = terns; value = bit } ∷ []

-- the cube with the bit that the function gives in each of its rows, if there is one
abbrev pub constant_cube : ((ℕ → Bool) → Bool) → List Tern → List Cube
constant_cube cell terns = cube_with cell terns false ++ cube_with cell terns true

-- all cubes on which the function is constant, by their numbers
abbrev pub constant_cubes : ((ℕ → Bool) → Bool) → ℕ → List Cube
constant_cubes cell places = flat_map (λ w. constant_cube cell (cube_terns places w)) (below (3 ^ places))

-- "some fixed place has the other bit"
abbrev pub outside : List KeyLit → List Tern → List KeyLit
outside (r ∷ rs) (Zero ∷ ts) = r ∷ outside rs ts
outside (r ∷ rs) (One ∷ ts) = opposite r ∷ outside rs ts
outside (r ∷ rs) (Unknown ∷ ts) = outside rs ts
outside _ _ = []

-- "some fixed place has the other bit, or the output has the cube's value"
abbrev pub cube_clause : List KeyLit → KeyLit → Cube → List KeyLit
cube_clause reads out cube = outside reads cube.fixed ++ flipped (not cube.value) out ∷ []

-- one such clause for each cube
abbrev pub plain_clauses : List KeyLit → KeyLit → List Cube → List (List KeyLit)
plain_clauses reads out cubes = map (cube_clause reads out) cubes

-- the literals of a place and of the output by which they may be 1, and may be 0
abbrev pub may_be : Bool → KeyLit → KeyLit → KeyLit
may_be true high low = high
may_be false high low = low

-- "some fixed place cannot have its bit"
abbrev pub barred : List KeyLit → List KeyLit → List Tern → List KeyLit
barred (h ∷ hs) (l ∷ ls) (Zero ∷ ts) = opposite l ∷ barred hs ls ts
barred (h ∷ hs) (l ∷ ls) (One ∷ ts) = opposite h ∷ barred hs ls ts
barred (h ∷ hs) (l ∷ ls) (Unknown ∷ ts) = barred hs ls ts
barred _ _ _ = []

-- "some fixed place may have the other bit"
abbrev pub escapes : List KeyLit → List KeyLit → List Tern → List KeyLit
escapes (h ∷ hs) (l ∷ ls) (Zero ∷ ts) = h ∷ escapes hs ls ts
escapes (h ∷ hs) (l ∷ ls) (One ∷ ts) = l ∷ escapes hs ls ts
escapes (h ∷ hs) (l ∷ ls) (Unknown ∷ ts) = escapes hs ls ts
escapes _ _ _ = []

-- "some fixed place cannot have its bit, or the output may have the cube's value"
abbrev pub may_clause : List KeyLit → List KeyLit → KeyLit → KeyLit → Cube → List KeyLit
may_clause hs ls high low cube = barred hs ls cube.fixed ++ may_be cube.value high low ∷ []

-- "some fixed place may have the other bit, or the output cannot have the other value"
abbrev pub must_clause : List KeyLit → List KeyLit → KeyLit → KeyLit → Cube → List KeyLit
must_clause hs ls high low cube = escapes hs ls cube.fixed ++ opposite (may_be (not cube.value) high low) ∷ []

-- the first for each cube of one list, the second for each of the other
abbrev pub hazard_clauses : List KeyLit → List KeyLit → KeyLit → KeyLit → List Cube → List Cube → List (List KeyLit)
hazard_clauses hs ls high low rows cubes =
    map (may_clause hs ls high low) rows ++ map (must_clause hs ls high low) cubes
