use Rattle.std.proofs.Common.{◌≡◌, false, take}
use Rattle.std.specs.List.{list_any}
use Rattle.net_model.specs.Held.{sets}
use Rattle.drawn_runs.proofs.inputs.is_set.Given as goal

abbrev pub invariant-loop-setting : goal.invariant-loop-setting
invariant-loop-setting l = list_any (sets l.input) (take l.setting-index l.settings) ≡ false
