use Rattle.std.proofs.Common.{◌≡◌, ◌<◌, ◌-◌, ℕ, false, take, drop}
use Rattle.std.specs.Prelude.{slice_index_or}
use Rattle.net_model.specs.Args.{arg_at}
use Rattle.query_model.specs.Tables.{row_bits}
use Rattle.cell_cubes.proofs.tables.row.Given as goal

abbrev pub invariant-loop-i : goal.invariant-loop-i
invariant-loop-i l =
    ((j : ℕ) → j < 7 → arg_at l.bits j ≡ slice_index_or (take l.i (row_bits l.places l.number)) j false)
    × (row_bits (l.places - l.i) l.rest ≡ drop l.i (row_bits l.places l.number))
