use Rattle.std.proofs.Common.{◌≡◌, ◌++◌, ◌-◌, map}
use Rattle.net_model.specs.Ternary.{tern_of}
use Rattle.query_model.specs.Tables.{row_bits}
use Rattle.prime_cubes.proofs.cells.row_terns.Given as goal

abbrev pub invariant-loop : goal.invariant-loop
invariant-loop l = l.fixed ++ map tern_of (row_bits (l.places - l.counter) l.rest) ≡ map tern_of (row_bits l.places l.number)
