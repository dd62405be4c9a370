use Rattle.std.proofs.Common.{◌≡◌, ◌++◌, take, map}
use Rattle.exception_expand.specs.Selections.{side_line}
use Rattle.exception_expand.proofs.lines.push_lines.Given as goal

abbrev pub invariant-loop-k : goal.invariant-loop-k
invariant-loop-k l = l.lines ≡ l.fn.lines ++ map (side_line l.names.linked.now l.number) (take l.k l.sides)
