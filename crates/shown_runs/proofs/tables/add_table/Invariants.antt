use Rattle.std.proofs.Common.{◌≡◌, ◌++◌, map, take}
use Rattle.shown_runs.specs.Tables as spec
use Rattle.shown_runs.proofs.tables.add_table.Given as goal

abbrev pub invariant-loop-row : goal.invariant-loop-row
invariant-loop-row l = l.lines ≡ l.fn.lines ++ map (spec.row_text l.widths) (take l.row-index l.rows)
