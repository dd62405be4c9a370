use Rattle.std.proofs.Common.{◌≡◌, ◌≤◌, ℕ, length}
use Rattle.sdcv_base.specs.Cursors.{rest, text_of}
use Rattle.sdc_words.specs.Blanks.{blank_len, skipped, after_blanks}
use Rattle.sdc_words.proofs.blanks.pass_blanks.Given as goal

abbrev pub invariant-blanks : goal.invariant-blanks
invariant-blanks l = record {
  text : text_of l.c ≡ text_of l.fn.c;
  within : length (rest l.c) ≤ length (rest l.fn.c);
  told : (m : ℕ) × (length (rest l.c) ≤ m) × (after_blanks (rest l.fn.c) ≡ skipped blank_len m (rest l.c));
}

abbrev pub decreases-blanks : goal.decreases-blanks
decreases-blanks l = length (rest l.c)
