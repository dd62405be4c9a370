use Rattle.std.proofs.Common.{◌≡◌, map, take}
use Rattle.report_groups.specs.Groups.{starred_row}
use Rattle.report_groups.proofs.keys.starred_rows.Given as goal

abbrev pub invariant-loop-row : goal.invariant-loop-row
invariant-loop-row l = l.all.items ≡ map starred_row (take l.row-index l.rows)
