use Rattle.std.proofs.Common.{◌≡◌, ◌++◌, ◌-◌}
use Rattle.query_model.specs.Tables.{cube_terns}
use Rattle.cell_cubes.proofs.tables.terns.Given as goal

abbrev pub invariant-loop : goal.invariant-loop
invariant-loop l = l.fixed ++ cube_terns (l.places - l.counter) l.rest ≡ cube_terns l.places l.number
