use Rattle.std.proofs.Common.{◌≡◌, false, drop}
use Rattle.sdc_words.specs.Pieces.{name_from}
use Rattle.sdc_words.proofs.pieces.name_len.Given as goal

abbrev pub invariant-loop-i : goal.invariant-loop-i
invariant-loop-i l = name_from l.within 0 false l.text ≡ name_from l.within l.i l.is_slashed (drop l.i l.text)
