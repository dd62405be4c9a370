use Rattle.std.proofs.Common.{◌≡◌, take}
use Rattle.mend_lines.specs.Lines.{lines_after}
use Rattle.mend_lines.proofs.lines.lines_after.Given as goal

abbrev pub invariant-loop-place : goal.invariant-loop-place
invariant-loop-place l = l.lines ≡ lines_after l.terms.head.now l.terms.pairs.now l.terms.through.now (take l.place l.groups)
