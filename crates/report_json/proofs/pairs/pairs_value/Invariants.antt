use Rattle.std.proofs.Common.{◌≡◌, ◌+◌, ◌++◌, map, drop}
use Rattle.serde_json.specs.View.{view}
use Rattle.report_text.specs.Rows.{each_pair}
use Rattle.report_json.specs.Reports.{one_pair}
use Rattle.report_json.proofs.pairs.pairs_value.Given as goal

abbrev pub invariant-loop-k : goal.invariant-loop-k
invariant-loop-k l =
    map view l.list.items ++ each_pair (one_pair l.limit) (l.k + 1) (drop l.k l.selected.pairs) (drop l.k l.selected.claims) (drop l.k l.verdicts)
    ≡ each_pair (one_pair l.limit) 1 l.selected.pairs l.selected.claims l.verdicts
