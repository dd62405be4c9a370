-- What each refusal says. Want of memory alone is free.
use Rattle.std.specs.Prelude.{◌≡◌, ◌≢◌, ℕ, ◌<◌, List, [], ◌∷◌, take, Contains, Option, Some, None, slice_get}
use Rattle.linked_types.specs.declared.names.PortName.{PortName}
use Rattle.sdcv_base.specs.declared.settings.Setting.{Setting}
use Rattle.script_types.specs.declared.objects.Object.{Object}
use Rattle.script_types.specs.declared.scripts.Command.{Command}
use Rattle.script_types.specs.declared.scripts.Script.{Script}
use Rattle.selected_types.specs.declared.faults.ExpandFault.{ExpandFault}
use Rattle.selected_types.specs.declared.faults.ExpandFault.TheVariants.{TwoClocks, ClockNotPort, CaseTwice, CaseOnReset, CaseOnPin, Limit, Memory}
use Rattle.selected_types.specs.declared.faults.ExpandFault.TheVariants.{NoClock, Generated}
use Rattle.sdc_settings.specs.declared.cases.Given.{Given}
use Rattle.sdc_settings.specs.Inputs.{name_at, object_text}
use Rattle.sdc_settings.specs.Sources.{source_bit}
use Rattle.sdc_settings.specs.Settings.{asked_clocks, source_of, generated, HasClock, all_given, case_objects, IsCaseObject, setting_names}

-- an input is given a value for the first time, and later the other one
pub record IsGivenTwice (inputs : List PortName) (all : List Given) (first later : ℕ) : Type 0 where
  pub place : ℕ
  pub after : ℕ
  pub once : Given
  pub again : Given
  pub in_order : place < after
  pub at_first : slice_get all place ≡ Some once
  pub at_later : slice_get all after ≡ Some again
  pub same_input : name_at inputs again.input ≡ name_at inputs once.input
  pub differ : again.value ≢ once.value
  pub none_before : (g : Given) → Contains (take place all) g → name_at inputs g.input ≢ name_at inputs once.input
  pub first_line : once.line ≡ first
  pub later_line : again.line ≡ later

-- an object of a case analysis on this line names no data input, or something else too
abbrev pub IsObjectCause : List PortName → Option (List ℕ) → ℕ → List Object → ExpandFault → Type 0
IsObjectCause inputs clock line objects (CaseOnPin at name) =
    (at ≡ line) × ((o : Object) × Contains objects o × (object_text o ≡ name) × ¬ IsCaseObject inputs clock o)
IsObjectCause inputs clock line objects Memory = Unit {0}
IsObjectCause inputs clock line objects _ = ⊥

-- the same of the case analyses of a script
abbrev pub IsCaseCause : List PortName → Option (List ℕ) → List Command → ExpandFault → Type 0
IsCaseCause inputs clock commands (CaseOnPin line name) =
    (c : Command) × Contains commands c × IsObjectCause inputs clock c.line (case_objects c.what) (CaseOnPin line name)
IsCaseCause inputs clock commands Memory = Unit {0}
IsCaseCause inputs clock commands _ = ⊥

-- an input that is given a value is a reset, or it is given the other value too
abbrev pub IsFixedCause : List PortName → List Setting → List Given → ExpandFault → Type 0
IsFixedCause inputs resets givens (CaseTwice first later) = IsGivenTwice inputs givens first later
IsFixedCause inputs resets givens (CaseOnReset line name) =
    ((g : Given) × Contains givens g × (g.line ≡ line) × (name_at inputs g.input ≡ name)) × Contains (setting_names resets) name
IsFixedCause inputs resets givens Memory = Unit {0}
IsFixedCause inputs resets givens _ = ⊥

-- of the clocks that may be judged there are two, or one whose source is no input bit, or none, and one is asked for
abbrev pub IsClockCause : Script → List PortName → Option (List ℕ) → ExpandFault → Type 0
IsClockCause script inputs asked (TwoClocks first second) =
    (a b : Command) × (rest : List Command) × (asked_clocks script inputs asked ≡ a ∷ b ∷ rest) × (a.line ≡ first) × (b.line ≡ second)
IsClockCause script inputs asked (ClockNotPort line) =
    (c : Command) × (asked_clocks script inputs asked ≡ c ∷ []) × (c.line ≡ line) × (source_bit inputs (source_of c.what) ≡ None)
IsClockCause script inputs asked (NoClock name) = (asked ≡ Some name) × (asked_clocks script inputs asked ≡ [])
IsClockCause script inputs asked Memory = Unit {0}
IsClockCause script inputs asked _ = ⊥

-- the first generated clock stands on this line
abbrev pub IsGeneratedCause : Script → ExpandFault → Type 0
IsGeneratedCause script (Generated line) = (c : Command) × (rest : List Command) × (generated script ≡ c ∷ rest) × (c.line ≡ line)
IsGeneratedCause script _ = ⊥

-- the refusals of settings; those of case analyses come only where the clock is settled
abbrev pub IsSettingsCause : Script → List PortName → List Setting → Option (List ℕ) → ExpandFault → Type 0
IsSettingsCause script inputs resets asked (TwoClocks first second) = IsClockCause script inputs asked (TwoClocks first second)
IsSettingsCause script inputs resets asked (ClockNotPort line) = IsClockCause script inputs asked (ClockNotPort line)
IsSettingsCause script inputs resets asked (CaseTwice first later) =
    (clock : Option (List ℕ)) × HasClock script inputs asked clock × IsFixedCause inputs resets (all_given script inputs clock) (CaseTwice first later)
IsSettingsCause script inputs resets asked (CaseOnReset line name) =
    (clock : Option (List ℕ)) × HasClock script inputs asked clock × IsFixedCause inputs resets (all_given script inputs clock) (CaseOnReset line name)
IsSettingsCause script inputs resets asked (CaseOnPin line name) =
    (clock : Option (List ℕ)) × HasClock script inputs asked clock × IsCaseCause inputs clock script.commands (CaseOnPin line name)
IsSettingsCause script inputs resets asked (Limit what number) = ⊥
IsSettingsCause script inputs resets asked Memory = Unit {0}
IsSettingsCause script inputs resets asked (NoClock name) = IsClockCause script inputs asked (NoClock name)
IsSettingsCause script inputs resets asked (Generated line) = IsGeneratedCause script (Generated line)
