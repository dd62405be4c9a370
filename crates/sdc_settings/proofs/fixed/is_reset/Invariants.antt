use Rattle.std.proofs.Common.{take}
use Rattle.std.specs.Prelude.{Contains}
use Rattle.sdc_settings.specs.Settings.{setting_names}
use Rattle.sdc_settings.proofs.fixed.is_reset.Given as goal

abbrev pub invariant-loop-k : goal.invariant-loop-k
invariant-loop-k l = ¬ Contains (setting_names (take l.k l.resets)) l.name
