use Rattle.std.proofs.Common.{◌≡◌, map}
use Rattle.std.specs.List.{range_with_len}
use Rattle.shown_runs.specs.Rows.{input_digits}
use Rattle.shown_runs.proofs.rows.input_cells.Given as goal

abbrev pub invariant-loop-cycle : goal.invariant-loop-cycle
invariant-loop-cycle l = l.cells ≡ map (input_digits l.marks l.input l.signal) (range_with_len 0 l.cycle)
