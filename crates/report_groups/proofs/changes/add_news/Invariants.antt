use Rattle.std.proofs.Common.{◌≡◌, ◌++◌, map, take}
use Rattle.report_groups.specs.Differences as spec
use Rattle.report_groups.proofs.changes.add_news.Given as goal

abbrev pub invariant-loop-row : goal.invariant-loop-row
invariant-loop-row l = l.out.items ≡ l.fn.out.items ++ map (λ r. spec.told_new r (spec.was l.olds r)) (take l.row-index l.rows)
