use Rattle.std.proofs.Common.{◌≡◌, map, drop}
use Rattle.serde_json.specs.View.{view}
use Rattle.report_rows.specs.Members.{with_all, with_cut_data}
use Rattle.report_rows.proofs.json_netlists.add_cuts.Given as goal

abbrev pub invariant-loop-value : goal.invariant-loop-value
invariant-loop-value l =
    with_all with_cut_data l.fn.found (map view l.values) ≡ with_all with_cut_data l.found (map view (drop l.value-index l.values))
