use Rattle.std.proofs.Common.{◌≡◌, ◌≤◌, ℕ, length}
use Rattle.sdcv_base.specs.Cursors.{rest, text_of}
use Rattle.sdc_words.specs.Blanks.{gap_len, skipped, after_gaps}
use Rattle.sdc_words.proofs.blanks.pass_gaps.Given as goal

abbrev pub invariant-gaps : goal.invariant-gaps
invariant-gaps l = record {
  text : text_of l.c ≡ text_of l.fn.c;
  within : length (rest l.c) ≤ length (rest l.fn.c);
  told : (m : ℕ) × (length (rest l.c) ≤ m) × (after_gaps (rest l.fn.c) ≡ skipped gap_len m (rest l.c));
}

abbrev pub decreases-gaps : goal.decreases-gaps
decreases-gaps l = length (rest l.c)
