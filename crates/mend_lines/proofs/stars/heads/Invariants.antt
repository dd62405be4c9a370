use Rattle.std.proofs.Common.{◌≡◌, take}
use Rattle.mend_lines.specs.Lines.{heads}
use Rattle.mend_lines.proofs.stars.heads.Given as goal

abbrev pub invariant-loop-place : goal.invariant-loop-place
invariant-loop-place l = l.rows ≡ heads (take l.place l.group.stars)
