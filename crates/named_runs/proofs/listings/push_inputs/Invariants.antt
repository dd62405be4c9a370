use Rattle.std.proofs.Common.{◌≡◌, ◌++◌, take}
use Rattle.wave_signals.specs.Numbered.{numbered}
use Rattle.linked_types.specs.Inputs.{input_names}
use Rattle.named_runs.specs.BitTexts as spec
use Rattle.named_runs.proofs.listings.push_inputs.Given as goal

abbrev pub invariant-loop-place : goal.invariant-loop-place
invariant-loop-place l = l.text.items ≡ l.fn.text.items ++ numbered spec.input_row 0 (take l.place (input_names l.names))
