use Rattle.std.proofs.Common.{◌≡◌, ◌++◌, take}
use Rattle.mend_lines.specs.Lines.{through_text}
use Rattle.mend_lines.proofs.lists.push_through.Given as goal

abbrev pub invariant-loop-place : goal.invariant-loop-place
invariant-loop-place l = l.text.items ≡ l.initial.text.items ++ through_text (take l.place l.lists)
