use Rattle.std.proofs.Common.{◌≡◌, ◌++◌, not}
use Rattle.std.specs.List.{filter, range_with_len}
use Rattle.sdc_settings.specs.Inputs.{name_at}
use Rattle.sdc_settings.specs.Settings.{is_clock}
use Rattle.sdc_settings.proofs.cases.add_data.Given as goal

abbrev pub invariant-loop-place : goal.invariant-loop-place
invariant-loop-place l = l.found ≡ l.fn.found ++ filter (λ place. not (is_clock l.clock (name_at l.inputs place))) (range_with_len 0 l.place)
