use Rattle.std.proofs.Common.{◌≡◌, flat_map, take}
use Rattle.script_notices.specs.Notices.{skipped_line}
use Rattle.script_notices.proofs.skipped.all_lines.Given as goal

abbrev pub invariant-loop-k : goal.invariant-loop-k
invariant-loop-k l = l.lines ≡ flat_map (skipped_line l.script) (take l.k l.names)
