use Rattle.std.proofs.Common.{◌≡◌, ◌≤◌, ℕ, length}
use Rattle.sdcv_base.specs.Cursors.{rest, text_of}
use Rattle.verilog_words.specs.Blanks.{skipped, after_blanks}
use Rattle.verilog_words.proofs.blanks.skip_blanks.Given as goal

abbrev pub invariant-pieces : goal.invariant-pieces
invariant-pieces l = record {
  text : text_of l.c ≡ text_of l.fn.c;
  within : length (rest l.c) ≤ length (rest l.fn.c);
  told : (m : ℕ) × (length (rest l.c) ≤ m) × (after_blanks l.fn.fresh (rest l.fn.c) ≡ skipped m l.fresh (rest l.c));
}

abbrev pub decreases-pieces : goal.decreases-pieces
decreases-pieces l = length (rest l.c)
