use Rattle.std.proofs.Common.{◌≡◌, drop}
use Rattle.sdc_words.specs.Blanks.{comment_len, comment_from}
use Rattle.sdc_words.proofs.blanks.comment_len.Given as goal

abbrev pub invariant-loop-i : goal.invariant-loop-i
invariant-loop-i l = comment_len l.text ≡ comment_from l.i l.is_taken (drop l.i l.text)
