use Rattle.std.proofs.Common.{◌≡◌, drop}
use Rattle.std.specs.List.{filter}
use Rattle.sdc_settings.specs.Settings.{is_generated, generated}
use Rattle.sdc_settings.proofs.generated.no_generated.Given as goal

abbrev pub invariant-loop-place : goal.invariant-loop-place
invariant-loop-place l = generated l.script ≡ filter is_generated (drop l.place l.script.commands)
