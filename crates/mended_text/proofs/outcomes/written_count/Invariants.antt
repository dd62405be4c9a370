use Rattle.std.proofs.Common.{◌≡◌, ◌≤◌, take}
use Rattle.std.specs.Prelude.{count_by}
use Rattle.mend_groups.specs.declared.rows.Row.{Row}
use Rattle.mended_text.proofs.outcomes.written_count.Given as goal

abbrev pub invariant-loop-row : goal.invariant-loop-row
invariant-loop-row l = record {
  written : l.written ≡ count_by (λ (r : Row). r.written) (take l.row-index l.rows);
  few : l.written ≤ l.row-index;
}
