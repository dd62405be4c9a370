use Rattle.std.proofs.Common.{◌≡◌, ◌++◌, take}
use Rattle.std.specs.List.{flat_map}
use Rattle.mended_text.specs.Claims.{group_rows}
use Rattle.mended_text.proofs.expected.add_groups.Given as goal

abbrev pub invariant-loop-group : goal.invariant-loop-group
invariant-loop-group l = l.rows ≡ l.initial.rows ++ flat_map group_rows (take l.group-index l.group-items)
