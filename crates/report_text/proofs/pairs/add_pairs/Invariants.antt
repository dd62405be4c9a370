use Rattle.std.proofs.Common.{◌≡◌, ◌+◌, ◌++◌, drop}
use Rattle.report_text.specs.Reports.{pair_lines, all_pairs}
use Rattle.report_text.specs.Rows.{each_pair}
use Rattle.report_text.proofs.pairs.add_pairs.Given as goal

abbrev pub invariant-loop-k : goal.invariant-loop-k
invariant-loop-k l =
    l.report ++ each_pair (pair_lines l.limit) (l.k + 1) (drop l.k l.selected.pairs) (drop l.k l.selected.claims) (drop l.k l.verdicts)
    ≡ l.initial.report ++ all_pairs l.limit l.selected l.verdicts
