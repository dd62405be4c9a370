use Rattle.std.proofs.Common.{◌≡◌, map}
use Rattle.net_model.specs.Form.{value}
use Rattle.query_model.specs.Keys.{below}
use Rattle.query_model.specs.Tables.{row_cube}
use Rattle.prime_cubes.proofs.cells.row_cubes.Given as goal

abbrev pub invariant-loop-row : goal.invariant-loop-row
invariant-loop-row l = l.found ≡ map (row_cube (value l.func) l.places) (below l.row)
