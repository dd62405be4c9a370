use Rattle.std.proofs.Common.{◌≡◌, ◌≤◌, ◌<◌, ℕ, length}
use Rattle.sdcv_base.specs.Cursors.{rest, text_of}
use Rattle.sdc_words.specs.Pieces.{pieces_after, pieces_from}
use Rattle.sdc_words.proofs.pieces.more_pieces.Given as goal

abbrev pub invariant-pieces : goal.invariant-pieces
invariant-pieces l = record {
  text : text_of l.c ≡ text_of l.fn.c;
  within : length (rest l.c) ≤ length (rest l.fn.c);
  told : (m : ℕ) × (length (rest l.c) < m)
      × (pieces_after l.within l.fn.found (length (text_of l.fn.c)) (rest l.fn.c)
      ≡ pieces_from l.within m l.is_slashed l.found (length (text_of l.fn.c)) (rest l.c));
}

abbrev pub decreases-pieces : goal.decreases-pieces
decreases-pieces l = length (rest l.c)
