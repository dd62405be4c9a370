use Rattle.std.proofs.Common.{◌≡◌, ◌++◌, map, drop}
use Rattle.report_groups.specs.Groups.{firsts, group_by, groups_among}
use Rattle.report_groups.proofs.groups.groups_among.Given as goal

abbrev pub invariant-loop-row : goal.invariant-loop-row
invariant-loop-row l = groups_among l.rows ≡ l.groups ++ map (group_by l.keys) (firsts l.seen (drop l.row-index l.rows))
