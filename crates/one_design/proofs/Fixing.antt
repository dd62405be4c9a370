-- The settings of a script have one answer.
use Rattle.std.proofs.Common.{ℕ, List, Option}
use Rattle.sdcv_base.specs.declared.settings.Setting.{Setting}
use Rattle.linked_types.specs.declared.names.PortName.{PortName}
use Rattle.script_types.specs.declared.scripts.Script.{Script}
use Rattle.selected_types.specs.declared.faults.ExpandFault.TheVariants as fault
use Rattle.sdc_settings.specs.Settings.{AreSettings}
use Rattle.sdc_settings.specs.Causes.{IsSettingsCause}
use Rattle.sdc_settings.proofs.OneSettings.{settings_same, settings_only}
use Rattle.one_design.specs.Answers.{IsOneAnswer}

-- two settings of a script are equal, and beside one of them nothing is refused but for want of memory
pub one_settings : (script : Script) (inputs : List PortName) (resets : List Setting) (clock : Option (List ℕ))
    → IsOneAnswer (AreSettings script inputs resets clock) (IsSettingsCause script inputs resets clock) fault.Memory
one_settings script inputs resets clock = record { same = settings_same script inputs resets clock; only = settings_only script inputs resets clock }
