use Rattle.std.proofs.Common.{◌≡◌, ◌+◌, ◌++◌, length}
use Rattle.std.specs.List.{AllByRecursion}
use Rattle.sdcv_base.specs.Cursors.{rest, place_of}
use Rattle.net_model.specs.declared.queries.Phase.TheVariants.{Base}
use Rattle.cert_lines.specs.Texts.{many_text}
use Rattle.cert_lines.specs.Derivations.{derivation_text, IsWritable}
use Rattle.cert_text.proofs.proofs_at.take_bases.Given as goal

abbrev pub invariant-loop : goal.invariant-loop
invariant-loop l = record {
  is : rest l.fn.cursor ≡ many_text (derivation_text Base) l.base ++ rest l.cursor;
  fits : AllByRecursion IsWritable l.base;
  count : length l.base ≡ l.counter;
  left : place_of l.cursor + length (rest l.cursor) ≡ place_of l.fn.cursor + length (rest l.fn.cursor);
}
