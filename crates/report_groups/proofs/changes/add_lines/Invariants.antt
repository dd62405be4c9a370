use Rattle.std.proofs.Common.{◌≡◌, ◌++◌, map, take}
use Rattle.report_groups.specs.Differences as spec
use Rattle.report_groups.proofs.changes.add_lines.Given as goal

abbrev pub invariant-loop-group : goal.invariant-loop-group
invariant-loop-group l = l.out ≡ l.fn.out ++ map spec.change_text (take l.group-index l.groups)
