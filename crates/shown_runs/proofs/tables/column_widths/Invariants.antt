use Rattle.std.proofs.Common.{◌≡◌, map}
use Rattle.std.specs.List.{range_with_len}
use Rattle.shown_runs.specs.Tables as spec
use Rattle.shown_runs.proofs.tables.column_widths.Given as goal

abbrev pub invariant-loop-column : goal.invariant-loop-column
invariant-loop-column l = l.widths ≡ map (spec.column_width l.rows) (range_with_len 0 l.column)
