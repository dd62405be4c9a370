use Rattle.std.proofs.Common.{◌≡◌, ◌+◌, ◌++◌, length}
use Rattle.std.specs.List.{AllByRecursion}
use Rattle.sdcv_base.specs.Cursors.{rest, place_of}
use Rattle.cert_lines.specs.Kinds.{text_of, step_words, IsStep}
use Rattle.cert_lines.specs.Texts.{many_text}
use Rattle.cert_lines.proofs.derivations.take_steps.Given as goal

abbrev pub invariant-loop : goal.invariant-loop
invariant-loop l = record {
  is : rest l.fn.cursor ≡ many_text (text_of step_words) l.steps ++ rest l.cursor;
  fits : AllByRecursion IsStep l.steps;
  count : length l.steps ≡ l.counter;
  left : place_of l.cursor + length (rest l.cursor) ≡ place_of l.fn.cursor + length (rest l.fn.cursor);
}
