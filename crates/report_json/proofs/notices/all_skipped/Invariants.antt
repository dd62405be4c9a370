use Rattle.std.proofs.Common.{◌≡◌, map, take}
use Rattle.serde_json.specs.View.{view}
use Rattle.report_json.specs.Reports.{one_skipped}
use Rattle.report_json.proofs.notices.all_skipped.Given as goal

abbrev pub invariant-loop-row : goal.invariant-loop-row
invariant-loop-row l = map view l.list.items ≡ map one_skipped (take l.row-index l.row-items)
