use Rattle.std.proofs.Common.{◌≡◌, ◌++◌, take, map, codes}
use Rattle.mend_lines.specs.Lines.{joined_by, pattern_of}
use Rattle.mend_lines.proofs.lists.push_all.Given as goal

abbrev pub invariant-loop-place : goal.invariant-loop-place
invariant-loop-place l = l.text.items ≡ l.initial.text.items ++ joined_by (codes " ") (map pattern_of (take l.place l.objects))
