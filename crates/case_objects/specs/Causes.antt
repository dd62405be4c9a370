-- What each refusal says. Want of memory alone is free.
use Rattle.std.specs.Prelude.{◌≡◌, ℕ, List, Contains, Some, slice_get}
use Rattle.net_model.specs.Netlist.{setting_inputs}
use Rattle.linked_types.specs.Inputs.{input_names}
use Rattle.linked_types.specs.declared.names.Linked.{Linked}
use Rattle.script_types.specs.declared.objects.Object.{Object}
use Rattle.script_types.specs.declared.scripts.Command.{Command}
use Rattle.script_types.specs.declared.scripts.Script.{Script}
use Rattle.selected_types.specs.declared.faults.ExpandFault.{ExpandFault}
use Rattle.selected_types.specs.declared.faults.ExpandFault.TheVariants.{CaseTwice, CaseOnReset, CaseOnPin, Memory}
use Rattle.sdc_settings.specs.Inputs.{object_text}
use Rattle.sdc_settings.specs.Settings.{case_objects}
use Rattle.case_objects.specs.declared.values.CaseValue.{CaseValue}
use Rattle.case_objects.specs.declared.subjects.Subject.{Subject}
use Rattle.case_objects.specs.Values.{HasPlaces, case_values}
use Rattle.case_objects.specs.Subjects.{IsSubject, IsTwice}

-- an object of a case analysis on this line names nothing, or something that is dropped
abbrev pub IsObjectCause : Linked → ℕ → List Object → ExpandFault → Type 0
IsObjectCause l line objects (CaseOnPin at name) = (at ≡ line) × ((o : Object) × Contains objects o × (object_text o ≡ name) × ¬ HasPlaces l o)
IsObjectCause l line objects Memory = Unit {0}
IsObjectCause l line objects _ = ⊥

-- the same of the case analyses of a script
abbrev pub IsPlaceCause : Linked → List Command → ExpandFault → Type 0
IsPlaceCause l commands (CaseOnPin line name) =
    (c : Command) × Contains commands c × IsObjectCause l c.line (case_objects c.what) (CaseOnPin line name)
IsPlaceCause l commands Memory = Unit {0}
IsPlaceCause l commands _ = ⊥

-- a value on this line is of a reset, whose name is this
pub record IsOnReset (l : Linked) (values : List CaseValue) (line : ℕ) (name : List ℕ) : Type 0 where
  pub value : CaseValue
  pub input : ℕ
  pub is_value : Contains values value
  pub fixes : value.input ≡ Some input
  pub is_reset : Contains (setting_inputs l.design.resets) input
  pub has_name : slice_get (input_names l.names) input ≡ Some name
  pub on_line : value.line ≡ line

-- a reset is given a value
abbrev pub IsResetCause : Linked → List CaseValue → ExpandFault → Type 0
IsResetCause l values (CaseOnReset line name) = IsOnReset l values line name
IsResetCause l values Memory = Unit {0}
IsResetCause l values _ = ⊥

-- it is given two values
abbrev pub IsTwiceOf : Subject → List CaseValue → ExpandFault → Type 0
IsTwiceOf s values (CaseTwice first later) = IsTwice s values first later
IsTwiceOf s values _ = ⊥

-- a data input or a load pin is
abbrev pub IsTwiceCause : Linked → List CaseValue → ExpandFault → Type 0
IsTwiceCause l values e = (s : Subject) × IsSubject l.design s × IsTwiceOf s values e

-- the refusals of case analyses in a linked design
abbrev pub IsCaseCause : Linked → Script → ExpandFault → Type 0
IsCaseCause l script (CaseOnPin line name) = IsPlaceCause l script.commands (CaseOnPin line name)
IsCaseCause l script (CaseOnReset line name) = IsResetCause l (case_values l script) (CaseOnReset line name)
IsCaseCause l script (CaseTwice first later) = IsTwiceCause l (case_values l script) (CaseTwice first later)
IsCaseCause l script Memory = Unit {0}
IsCaseCause l script _ = ⊥
