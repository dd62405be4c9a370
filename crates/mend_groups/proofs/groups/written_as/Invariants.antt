use Rattle.std.proofs.Common.{◌≡◌, take}
use Rattle.mend_groups.specs.Groups.{written_as}
use Rattle.mend_groups.proofs.groups.written_as.Given as goal

abbrev pub invariant-loop-row : goal.invariant-loop-row
invariant-loop-row l = l.written.items ≡ written_as l.sides (take l.row-index l.rows)
