-- The cubes of a function as callers see them.
use Rattle.std.specs.Prelude.{List, Option, Some, None}
use Rattle.query_model.specs.declared.keys.Cube.{Cube}

-- those by which an output is what the function gives, and those by which it is nothing else where hazards count
pub record CellCubes : Type 0 where
  pub covering : List Cube
  pub settling : List Cube

-- where there are none of the second kind, the first serve as both
abbrev pub cell_cubes : List Cube → Option (List Cube) → CellCubes
cell_cubes cover None = record { covering = cover; settling = cover }
cell_cubes cover (Some settle) = record { covering = cover; settling = settle }
