use Rattle.std.proofs.Common.{◌≡◌, take}
use Rattle.multicycle_text.specs.Lines.{lines_text}
use Rattle.found_pairs.specs.Lines.{lines_of, all_lines}
use Rattle.found_pairs.proofs.lines.found_text.Given as goal

abbrev pub invariant-loop-place : goal.invariant-loop-place
invariant-loop-place l = l.text.items ≡ lines_text (all_lines l.hold (lines_of (take l.place l.detected.tried)))
