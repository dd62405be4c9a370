use Rattle.std.proofs.Common.{take}
use Rattle.std.specs.Prelude.{All}
use Rattle.report_rows.specs.Totals.{HasItsPairs}
use Rattle.report_rows.proofs.counts.check_pairs.Given as goal

abbrev pub invariant-loop-row : goal.invariant-loop-row
invariant-loop-row l = All (HasItsPairs l.report.pairs) (take l.row-index l.report.script)
