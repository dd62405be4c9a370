use Rattle.std.proofs.Common.{◌≡◌, ◌++◌}
use Rattle.std.specs.List.{filter, range_with_len}
use Rattle.sdc_settings.specs.Inputs.{names_input}
use Rattle.sdc_settings.proofs.inputs.add_named.Given as goal

abbrev pub invariant-loop-place : goal.invariant-loop-place
invariant-loop-place l = l.found ≡ l.fn.found ++ filter (names_input l.query l.inputs) (range_with_len 0 l.place)
