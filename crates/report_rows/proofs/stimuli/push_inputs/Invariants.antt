use Rattle.std.proofs.Common.{◌≡◌, map, drop}
use Rattle.serde_json.specs.View.{view}
use Rattle.report_rows.specs.Members.{with_all}
use Rattle.report_rows.specs.Stimuli.{with_input}
use Rattle.report_rows.proofs.stimuli.push_inputs.Given as goal

abbrev pub invariant-loop-value : goal.invariant-loop-value
invariant-loop-value l = with_all with_input l.fn.out.items (map view l.values) ≡ with_all with_input l.out.items (map view (drop l.value-index l.values))
