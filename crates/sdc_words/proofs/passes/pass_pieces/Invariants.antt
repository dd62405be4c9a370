use Rattle.std.proofs.Common.{◌≡◌, ◌≤◌, ◌<◌, ℕ, List, length}
use Rattle.sdcv_base.specs.Cursors.{rest, text_of}
use Rattle.sdc_words.specs.declared.words.Piece.{Piece}
use Rattle.sdc_words.specs.Pieces.{pieces_after, pieces_from}
use Rattle.sdc_words.proofs.passes.pass_pieces.Given as goal

abbrev pub invariant-pieces : goal.invariant-pieces
invariant-pieces l = record {
  text : text_of l.c ≡ text_of l.fn.c;
  within : length (rest l.c) ≤ length (rest l.fn.c);
  told : (found : List Piece) → (m : ℕ) × (more : List Piece) × (length (rest l.c) < m)
      × (pieces_after l.within found (length (text_of l.fn.c)) (rest l.fn.c)
      ≡ pieces_from l.within m l.is_slashed more (length (text_of l.fn.c)) (rest l.c));
}

abbrev pub decreases-pieces : goal.decreases-pieces
decreases-pieces l = length (rest l.c)
