use Rattle.std.proofs.Common.{◌≡◌, ◌++◌, drop}
use Rattle.sdc_words.specs.Lines.{cleaned}
use Rattle.sdc_words.proofs.lines.cleaned.Given as goal

abbrev pub invariant-loop-i : goal.invariant-loop-i
invariant-loop-i l = cleaned l.text ≡ l.clean.items ++ cleaned (drop l.i l.text)
