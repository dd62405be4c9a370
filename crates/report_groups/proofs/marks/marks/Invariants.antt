use Rattle.std.proofs.Common.{◌≡◌, take}
use Rattle.report_groups.specs.Marks as spec
use Rattle.report_groups.proofs.marks.marks.Given as goal

abbrev pub invariant-loop-row : goal.invariant-loop-row
invariant-loop-row l = l.table ≡ spec.marks l.verdicts (take l.row-index l.rows)
