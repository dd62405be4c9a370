use Rattle.std.proofs.Common.{◌≡◌, ◌++◌, take}
use Rattle.std.specs.Prelude.{flat_map}
use Rattle.report_groups.specs.Findings.{told_notes}
use Rattle.report_groups.proofs.told_notes.add_told_notes.Given as goal

abbrev pub invariant-loop-row : goal.invariant-loop-row
invariant-loop-row l = l.out ≡ l.fn.out ++ flat_map told_notes (take l.row-index l.rows)
