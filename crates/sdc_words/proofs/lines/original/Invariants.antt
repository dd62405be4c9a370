use Rattle.std.proofs.Common.{◌≡◌, drop}
use Rattle.sdc_words.specs.Lines.{original, original_from}
use Rattle.sdc_words.proofs.lines.original.Given as goal

abbrev pub invariant-loop-i : goal.invariant-loop-i
invariant-loop-i l = original l.text l.place ≡ original_from l.i l.left (drop l.i l.text)
