use Rattle.std.proofs.Common.{◌≡◌, map, take}
use Rattle.shown_runs.specs.Rows as spec
use Rattle.shown_runs.proofs.rows.bit_cells.Given as goal

abbrev pub invariant-loop-bit : goal.invariant-loop-bit
invariant-loop-bit l = l.cells ≡ map spec.bit_text (take l.bit-index l.bits)
