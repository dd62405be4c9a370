use Rattle.std.proofs.Common.{◌≡◌, map, drop}
use Rattle.serde_json.specs.View.{view}
use Rattle.report_rows.specs.Stimuli.{pair_numbered}
use Rattle.report_rows.proofs.stimuli.pair_numbered.Given as goal

abbrev pub invariant-loop-pair : goal.invariant-loop-pair
invariant-loop-pair l = pair_numbered l.number (map view l.pairs) ≡ pair_numbered l.number (map view (drop l.pair-index l.pairs))
