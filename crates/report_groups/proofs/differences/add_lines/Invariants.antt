use Rattle.std.proofs.Common.{◌≡◌, ◌++◌, map, take}
use Rattle.report_groups.specs.Differences as spec
use Rattle.report_groups.proofs.differences.add_lines.Given as goal

abbrev pub invariant-loop-row : goal.invariant-loop-row
invariant-loop-row l = l.out ≡ l.fn.out ++ map (spec.note_line l.word) (take l.row-index l.rows)
