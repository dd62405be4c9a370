use Rattle.std.proofs.Common.{◌≡◌, ◌≤◌, take}
use Rattle.mend_lines.specs.Bodies.{kept_count}
use Rattle.mend_lines.proofs.counts.kept_count.Given as goal

abbrev pub invariant-loop-row : goal.invariant-loop-row
invariant-loop-row l = record {
  kept : l.kept ≡ kept_count (take l.row-index l.rows);
  few : l.kept ≤ l.row-index;
}
