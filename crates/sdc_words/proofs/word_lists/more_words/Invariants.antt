use Rattle.std.proofs.Common.{◌≡◌, ◌≤◌, ◌<◌, ℕ, length}
use Rattle.sdcv_base.specs.Cursors.{rest, text_of}
use Rattle.sdc_words.specs.Words.{words_after, words_from}
use Rattle.sdc_words.proofs.word_lists.more_words.Given as goal

abbrev pub invariant-words : goal.invariant-words
invariant-words l = record {
  text : text_of l.c ≡ text_of l.fn.c;
  within : length (rest l.c) ≤ length (rest l.fn.c);
  told : (m : ℕ) × (length (rest l.c) < m)
      × (words_after l.fn.opened l.fn.words (length (text_of l.fn.c)) (rest l.fn.c) ≡ words_from m l.opened l.words (length (text_of l.fn.c)) (rest l.c));
}

abbrev pub decreases-words : goal.decreases-words
decreases-words l = length (rest l.c)
