use Rattle.std.proofs.Common.{◌≡◌, ◌++◌, codes, map, take}
use Rattle.report_groups.specs.Differences as spec
use Rattle.report_groups.proofs.changes.add_gone.Given as goal

abbrev pub invariant-loop-row : goal.invariant-loop-row
invariant-loop-row l = l.out.items ≡ l.fn.out.items ++ map (spec.told_as (codes "gone")) (take l.row-index l.rows)
