use Rattle.std.proofs.Common.{◌≡◌, ◌≤◌, ◌&&◌, not, take}
use Rattle.std.specs.Prelude.{count_by}
use Rattle.mend_groups.specs.declared.rows.Row.{Row}
use Rattle.mended_text.proofs.totals.unwritten_count.Given as goal

abbrev pub invariant-loop-row : goal.invariant-loop-row
invariant-loop-row l = record {
  unwritten : l.unwritten ≡ count_by (λ (r : Row). r.kept && not r.written) (take l.row-index l.rows);
  few : l.unwritten ≤ l.row-index;
}
