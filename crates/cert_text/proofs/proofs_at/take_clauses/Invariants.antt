use Rattle.std.proofs.Common.{◌≡◌, ◌+◌, ◌++◌, length}
use Rattle.std.specs.List.{AllByRecursion}
use Rattle.sdcv_base.specs.Cursors.{rest, place_of}
use Rattle.cert_lines.specs.Kinds.{text_of, kept_words, IsKept}
use Rattle.cert_lines.specs.Texts.{many_text}
use Rattle.cert_text.proofs.proofs_at.take_clauses.Given as goal

abbrev pub invariant-loop : goal.invariant-loop
invariant-loop l = record {
  is : rest l.fn.cursor ≡ many_text (text_of kept_words) l.clauses ++ rest l.cursor;
  fits : AllByRecursion (IsKept l.long) l.clauses;
  count : length l.clauses ≡ l.counter;
  left : place_of l.cursor + length (rest l.cursor) ≡ place_of l.fn.cursor + length (rest l.fn.cursor);
}
