use Rattle.std.proofs.Common.{◌≡◌, take, false}
use Rattle.std.specs.Prelude.{All}
use Rattle.sdc_settings.specs.Inputs.{name_at}
use Rattle.sdc_settings.specs.Settings.{is_clock}
use Rattle.sdc_settings.proofs.cases.are_data.Given as goal

abbrev pub invariant-loop-k : goal.invariant-loop-k
invariant-loop-k l = All (λ place. is_clock l.clock (name_at l.inputs place) ≡ false) (take l.k l.places)
