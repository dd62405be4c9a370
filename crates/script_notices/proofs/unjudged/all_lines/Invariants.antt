use Rattle.std.proofs.Common.{◌≡◌, flat_map, take}
use Rattle.script_notices.specs.Notices.{unjudged_line}
use Rattle.script_notices.proofs.unjudged.all_lines.Given as goal

abbrev pub invariant-loop-k : goal.invariant-loop-k
invariant-loop-k l =
    l.lines ≡ flat_map (unjudged_line l.scope.top.now l.scope.hold l.scope.script.now l.scope.selected.now) (take l.k l.scope.script.now.commands)
