use Rattle.std.proofs.Common.{◌≡◌, ◌<◌, ℕ, false}
use Rattle.std.specs.Prelude.{slice_index_or}
use Rattle.net_model.specs.Args.{arg_at}
use Rattle.query_model.specs.Tables.{row_bits}
use Rattle.frame_unroll.proofs.places.row.Given as goal

abbrev pub invariant-loop-i : goal.invariant-loop-i
invariant-loop-i l = (j : ℕ) → j < 7 → arg_at l.bits j ≡ slice_index_or (row_bits l.i l.number) j false
