use Rattle.std.proofs.Common.{◌≡◌, ◌++◌, take}
use Rattle.mend_lines.specs.Bodies.{newline}
use Rattle.mend_lines.specs.Lines.{joined_by}
use Rattle.mend_lines.proofs.joins.push_lines.Given as goal

abbrev pub invariant-loop-place : goal.invariant-loop-place
invariant-loop-place l = l.text.items ≡ l.initial.text.items ++ joined_by newline (take l.place l.lines)
