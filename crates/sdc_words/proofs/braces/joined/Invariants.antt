use Rattle.std.proofs.Common.{◌≡◌, ◌++◌, drop}
use Rattle.sdc_words.specs.Braces.{joined, joined_from}
use Rattle.sdc_words.proofs.braces.joined.Given as goal

abbrev pub invariant-loop-i : goal.invariant-loop-i
invariant-loop-i l = joined l.text ≡ l.bytes.items ++ joined_from l.is_taken (drop l.i l.text)
