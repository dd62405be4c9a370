use Rattle.std.proofs.Common.{◌≡◌, map, take}
use Rattle.report_groups.specs.Groups.{key_of}
use Rattle.report_groups.proofs.keys.keys_of.Given as goal

abbrev pub invariant-loop-row : goal.invariant-loop-row
invariant-loop-row l = l.keys.items ≡ map key_of (take l.row-index l.rows)
