use Rattle.std.proofs.Common.{◌≡◌, ◌≤◌, length}
use Rattle.sdcv_base.specs.Cursors.{rest, text_of}
use Rattle.lib_words.specs.Blanks.{after_space}
use Rattle.lib_words.proofs.blanks.skip_space.Given as goal

abbrev pub invariant-space : goal.invariant-space
invariant-space l = record {
  text : text_of l.c ≡ text_of l.fn.c;
  within : length (rest l.c) ≤ length (rest l.fn.c);
  left : after_space (rest l.fn.c) ≡ after_space (rest l.c);
}

abbrev pub decreases-space : goal.decreases-space
decreases-space l = length (rest l.c)
