use Rattle.std.proofs.Common.{◌≡◌}
use Rattle.report_groups.specs.Marks as spec
use Rattle.report_groups.proofs.marks.unmarked.Given as goal

abbrev pub invariant-loop-row : goal.invariant-loop-row
invariant-loop-row l = l.all ≡ spec.unmarked l.verdicts l.yielded l.table
