use Rattle.std.proofs.Common.{◌≡◌, take}
use Rattle.shown_runs.specs.Tables as spec
use Rattle.shown_runs.proofs.tables.column_width.Given as goal

abbrev pub invariant-loop-row : goal.invariant-loop-row
invariant-loop-row l = l.width ≡ spec.column_width (take l.row-index l.rows) l.column
