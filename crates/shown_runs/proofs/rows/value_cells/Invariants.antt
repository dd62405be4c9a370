use Rattle.std.proofs.Common.{◌≡◌, map, take}
use Rattle.shown_runs.specs.Values.{value_text}
use Rattle.shown_runs.proofs.rows.value_cells.Given as goal

abbrev pub invariant-loop-cell : goal.invariant-loop-cell
invariant-loop-cell l = l.values ≡ map value_text (take l.cell-index l.cells)
