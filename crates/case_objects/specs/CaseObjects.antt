-- What the case analyses of a script assume in a linked design, and which of its inputs they fix.
use Rattle.std.specs.Prelude.{◌≡◌, ℕ, nat_lt, Bool, true, not, ◌==◌, List, [], ◌∷◌, ◌++◌, flat_map, length, All, Contains, Option, Some, None}
use Rattle.std.specs.List.{list_any}
use Rattle.net_model.specs.Netlist.{setting_inputs}
use Rattle.net_model.specs.declared.netlist.Design.{Design}
use Rattle.net_model.specs.declared.netlist.Fixed.{Fixed}
use Rattle.linked_types.specs.declared.names.Linked.{Linked}
use Rattle.script_types.specs.declared.scripts.Command.{Command}
use Rattle.script_types.specs.declared.scripts.Script.{Script}
use Rattle.sdcv_base.specs.Seqs.{where_true}
use Rattle.sdc_settings.specs.Settings.{case_objects}
use Rattle.case_inputs.specs.declared.assumptions.Assumed.{Assumed}
use Rattle.case_objects.specs.declared.values.CaseValue.{CaseValue}
use Rattle.case_objects.specs.declared.values.Told.{Told}
use Rattle.case_objects.specs.declared.values.CaseObjects.{CaseObjects}
use Rattle.case_objects.specs.Values.{HasPlaces, case_values}
use Rattle.case_objects.specs.Subjects.{Agree}

-- a value that fixes no input is an assumption
abbrev pub assumed_by : CaseValue → Option ℕ → List Assumed
assumed_by v None = record { pins = v.place; value = v.value } ∷ []
assumed_by v (Some i) = []

abbrev pub assumed_of : CaseValue → List Assumed
assumed_of v = assumed_by v v.input

-- and has a name
abbrev pub named_by : CaseValue → Option ℕ → List (List ℕ)
named_by v None = v.name ∷ []
named_by v (Some i) = []

abbrev pub names_of : CaseValue → List (List ℕ)
names_of v = named_by v v.input

-- it is told, and so is a free input that is fixed; one of the first inputs, which are ports, is not
abbrev pub is_told : ℕ → Option ℕ → Bool
is_told ports None = true
is_told ports (Some i) = not (nat_lt i ports)

abbrev pub told_of : ℕ → CaseValue → List Told
told_of ports v = where_true (is_told ports v.input) (record { line = v.line; name = v.name; value = v.value })

-- an input is among fixed ones
abbrev pub is_fixed : ℕ → List Fixed → Bool
is_fixed i fixed = list_any (λ (f : Fixed). f.input == i) fixed

-- an input that is given a value is fixed, unless it is already
abbrev pub fixed_by : List Fixed → Bool → Option ℕ → List Fixed
fixed_by before value None = []
fixed_by before value (Some i) = where_true (not (is_fixed i before)) (record { input = i; value = value })

abbrev pub fixed_of : List Fixed → CaseValue → List Fixed
fixed_of before v = fixed_by before v.value v.input

-- the inputs that are fixed besides these, each once, in the order in which they are given values
abbrev pub more_fixed : List Fixed → List CaseValue → List Fixed
more_fixed before [] = []
more_fixed before (v ∷ vs) = fixed_of before v ++ more_fixed (before ++ fixed_of before v) vs

-- the assumptions that values give, their names, what is told, and the inputs that are fixed besides the design's
pub record AreGiven (l : Linked) (values : List CaseValue) (c : CaseObjects) : Type 0 where
  pub assumed : c.assumed ≡ flat_map assumed_of values
  pub names : c.names ≡ flat_map names_of values
  pub told : c.told ≡ flat_map (told_of (length l.names.ins)) values
  pub fixed : c.fixed ≡ more_fixed l.design.fixed values

-- those of a script
abbrev pub AreCaseObjects : Linked → Script → CaseObjects → Type 0
AreCaseObjects l script c = AreGiven l (case_values l script) c

-- no reset is given a value
abbrev pub resets_input : Design → Option ℕ → Type 0
resets_input d None = ⊥
resets_input d (Some i) = Contains (setting_inputs d.resets) i

-- nothing is wrong with the case analyses: each object has places, no reset is given a value, and the values agree
pub record AreSensible (l : Linked) (script : Script) : Type 0 where
  pub objects : All (λ (c : Command). All (HasPlaces l) (case_objects c.what)) script.commands
  pub no_reset : All (λ (v : CaseValue). ¬ resets_input l.design v.input) (case_values l script)
  pub agree : Agree l.design (case_values l script)
