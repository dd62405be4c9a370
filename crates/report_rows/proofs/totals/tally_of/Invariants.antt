use Rattle.std.proofs.Common.{◌≡◌, ◌≤◌, take}
use Rattle.std.specs.Prelude.{count_by}
use Rattle.report_rows.specs.Totals.{is_justified, is_refuted, is_undecided}
use Rattle.report_rows.proofs.totals.tally_of.Given as goal

abbrev pub invariant-loop-row : goal.invariant-loop-row
invariant-loop-row l = record {
  justified : l.justified ≡ count_by (λ row. is_justified row.verdict) (take l.row-index l.rows);
  refuted : l.refuted ≡ count_by (λ row. is_refuted row.verdict) (take l.row-index l.rows);
  undecided : l.undecided ≡ count_by (λ row. is_undecided row.verdict) (take l.row-index l.rows);
  few_justified : l.justified ≤ l.row-index;
  few_refuted : l.refuted ≤ l.row-index;
  few_undecided : l.undecided ≤ l.row-index;
}
