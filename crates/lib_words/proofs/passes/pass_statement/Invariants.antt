use Rattle.std.proofs.Common.{◌≡◌, ◌<◌, ℕ, length}
use Rattle.sdcv_base.specs.Cursors.{rest, text_of}
use Rattle.lib_words.specs.Passes.{passed_at, passed_from}
use Rattle.lib_words.proofs.passes.pass_statement.Given as goal

abbrev pub invariant-steps : goal.invariant-steps
invariant-steps l = record {
  text : text_of l.c ≡ text_of l.fn.c;
  within : length (rest l.c) < length (rest l.fn.c);
  told : (m : ℕ) × (length (rest l.c) < m)
      × (passed_at l.room (length (text_of l.fn.c)) (rest l.fn.c) ≡ passed_from l.room m l.opened (length (text_of l.fn.c)) (rest l.c));
}

abbrev pub decreases-steps : goal.decreases-steps
decreases-steps l = length (rest l.c)
