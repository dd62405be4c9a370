use Rattle.std.proofs.Common.{◌≡◌, ◌++◌, take}
use Rattle.wave_signals.specs.Numbered.{numbered}
use Rattle.shown_runs.specs.Tables as spec
use Rattle.shown_runs.proofs.tables.push_cells.Given as goal

abbrev pub invariant-loop-column : goal.invariant-loop-column
invariant-loop-column l = l.text.items ≡ l.fn.text.items ++ numbered (spec.cell_text l.widths) 0 (take l.column l.cells)
