use Rattle.std.proofs.Common.{◌≡◌, take}
use Rattle.exception_expand.specs.Asking.{asked_by}
use Rattle.mend_lines.specs.Lines.{lines_of}
use Rattle.mend_lines.proofs.claim_bodies.lines_of.Given as goal

abbrev pub invariant-loop-place : goal.invariant-loop-place
invariant-loop-place l = l.lines ≡ lines_of l.pairs (asked_by l.ask) (take l.place l.part.groups)
