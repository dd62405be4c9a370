use Rattle.std.proofs.Common.{◌≡◌, ◌≤◌, ◌<◌, ℕ, List, length}
use Rattle.sdcv_base.specs.Cursors.{rest, text_of}
use Rattle.sdc_words.specs.declared.words.Word.{Word}
use Rattle.sdc_words.specs.Words.{words_after, words_from}
use Rattle.sdc_words.proofs.passes.pass_more.Given as goal

abbrev pub invariant-words : goal.invariant-words
invariant-words l = record {
  text : text_of l.c ≡ text_of l.fn.c;
  within : length (rest l.c) ≤ length (rest l.fn.c);
  told : (found : List Word) → (m : ℕ) × (more : List Word) × (length (rest l.c) < m)
      × (words_after l.fn.opened found (length (text_of l.fn.c)) (rest l.fn.c) ≡ words_from m l.opened more (length (text_of l.fn.c)) (rest l.c));
}

abbrev pub decreases-words : goal.decreases-words
decreases-words l = length (rest l.c)
