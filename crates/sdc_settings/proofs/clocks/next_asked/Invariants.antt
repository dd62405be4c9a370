use Rattle.std.proofs.Common.{◌≡◌, drop}
use Rattle.std.specs.List.{filter}
use Rattle.sdc_settings.specs.Settings.{is_asked}
use Rattle.sdc_settings.proofs.clocks.next_asked.Given as goal

abbrev pub invariant-loop-place : goal.invariant-loop-place
invariant-loop-place l = filter (is_asked l.inputs l.asked) (drop l.from l.commands) ≡ filter (is_asked l.inputs l.asked) (drop l.place l.commands)
