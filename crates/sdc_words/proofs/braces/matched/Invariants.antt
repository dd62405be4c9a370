use Rattle.std.proofs.Common.{◌≡◌, drop}
use Rattle.sdc_words.specs.Braces.{matched, matched_from}
use Rattle.sdc_words.proofs.braces.matched.Given as goal

abbrev pub invariant-loop-i : goal.invariant-loop-i
invariant-loop-i l = matched l.own l.text ≡ matched_from l.own l.i l.is_escaped l.opened (drop l.i l.text)
