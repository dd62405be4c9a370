use Rattle.std.proofs.Common.{◌≡◌, ◌≤◌, take}
use Rattle.std.specs.Prelude.{count_by}
use Rattle.found_pairs.specs.Tellings.{is_found}
use Rattle.found_pairs.proofs.totals.found_count.Given as goal

abbrev pub invariant-loop-pair : goal.invariant-loop-pair
invariant-loop-pair l = record {
  found : l.found ≡ count_by is_found (take l.pair-index l.tried);
  few : l.found ≤ l.pair-index;
}
