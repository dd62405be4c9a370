use Rattle.std.proofs.Common.{◌≡◌, ◌++◌, map, take, drop}
use Rattle.report_groups.specs.Counts.{AreCountsOf}
use Rattle.report_groups.specs.Marks.{alike_text, ranked, ranked_after}
use Rattle.report_groups.proofs.marks.ranked.Given as goal

abbrev pub invariant-loop-row : goal.invariant-loop-row
invariant-loop-row l = record {
  counts : AreCountsOf (map (alike_text l.verdicts) (take l.row-index l.rows)) l.counts;
  rows : ranked l.verdicts l.rows ≡ l.all ++ ranked_after l.verdicts (take l.row-index l.rows) (drop l.row-index l.rows);
}
