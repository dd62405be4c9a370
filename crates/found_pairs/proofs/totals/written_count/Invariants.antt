use Rattle.std.proofs.Common.{◌≡◌, ◌≤◌, take}
use Rattle.std.specs.Prelude.{count_by}
use Rattle.found_pairs.specs.Lines.{is_written}
use Rattle.found_pairs.proofs.totals.written_count.Given as goal

abbrev pub invariant-loop-pair : goal.invariant-loop-pair
invariant-loop-pair l = record {
  written : l.written ≡ count_by is_written (take l.pair-index l.tried);
  few : l.written ≤ l.pair-index;
}
