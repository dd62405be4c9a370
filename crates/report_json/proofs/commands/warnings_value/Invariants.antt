use Rattle.std.proofs.Common.{◌≡◌, map, take}
use Rattle.serde_json.specs.Data.{string}
use Rattle.serde_json.specs.View.{view}
use Rattle.report_text.specs.Words.{warning_text}
use Rattle.report_json.proofs.commands.warnings_value.Given as goal

abbrev pub invariant-loop-warning : goal.invariant-loop-warning
invariant-loop-warning l = map view l.list.items ≡ map (λ w. string (warning_text w)) (take l.warning-index l.warning-items)
