use Rattle.std.proofs.Common.{◌≡◌, ◌+◌, ◌++◌, length}
use Rattle.std.specs.List.{AllByRecursion}
use Rattle.sdcv_base.specs.Cursors.{rest, place_of}
use Rattle.cert_lines.specs.Texts.{many_text}
use Rattle.cert_text.specs.Certs.{pair_text, IsPair}
use Rattle.cert_text.proofs.pairs.take_pairs.Given as goal

abbrev pub invariant-loop-pairs : goal.invariant-loop-pairs
invariant-loop-pairs l = record {
  is : rest l.fn.cursor ≡ many_text pair_text l.pairs ++ rest l.cursor;
  fits : AllByRecursion IsPair l.pairs;
  left : place_of l.cursor + length (rest l.cursor) ≡ place_of l.fn.cursor + length (rest l.fn.cursor);
}

abbrev pub decreases-loop-pairs : goal.decreases-loop-pairs
decreases-loop-pairs l = length (rest l.cursor)
