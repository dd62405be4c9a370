-- The settings of a script: the clock's port bit, and the inputs that a case analysis fixes.
use Rattle.std.specs.Prelude.{◌≡◌, ℕ, Bool, true, false, not, List, [], ◌∷◌, map, filter, flat_map, All, Contains, Option, Some, None}
use Rattle.std.specs.Str.{bytes_eq}
use Rattle.texts.specs.Names.{are_distinct, each_once}
use Rattle.linked_types.specs.declared.names.PortName.{PortName}
use Rattle.sdcv_base.specs.declared.settings.Setting.{Setting}
use Rattle.script_types.specs.declared.objects.Object.{Object}
use Rattle.script_types.specs.declared.objects.Object.TheVariants.{AllInputs}
use Rattle.script_types.specs.declared.scripts.What.{What}
use Rattle.script_types.specs.declared.scripts.What.TheVariants.{Clock, Case, Generated}
use Rattle.script_types.specs.declared.scripts.Command.{Command}
use Rattle.script_types.specs.declared.scripts.Script.{Script}
use Rattle.sdc_settings.specs.declared.values.Settings.{Settings}
use Rattle.sdc_settings.specs.declared.cases.Given.{Given}
use Rattle.sdc_settings.specs.Inputs.{is_port_object, port_places, places, name_at}
use Rattle.sdc_settings.specs.Sources.{source_bit, clock_name}

-- the objects of a clock's source
abbrev pub source_of : What → List Object
source_of (Clock name source) = source
source_of _ = []

-- there is a name, and it is this one
abbrev pub is_clock : Option (List ℕ) → List ℕ → Bool
is_clock None name = false
is_clock (Some bit) name = bytes_eq bit name

-- a clock of this name and this source may be judged: it is not virtual, and goes by the name that is asked for, if one is
abbrev pub is_asked_clock : List PortName → Option (List ℕ) → Option (List ℕ) → List Object → Bool
is_asked_clock inputs asked own [] = false
is_asked_clock inputs None own (o ∷ source) = true
is_asked_clock inputs (Some name) own (o ∷ source) = is_clock (clock_name inputs own (o ∷ source)) name

-- a command makes such a clock
abbrev pub makes_asked : List PortName → Option (List ℕ) → What → Bool
makes_asked inputs asked (Clock own source) = is_asked_clock inputs asked own source
makes_asked inputs asked _ = false

abbrev pub is_asked : List PortName → Option (List ℕ) → Command → Bool
is_asked inputs asked c = makes_asked inputs asked c.what

-- the clocks that may be judged, in the order of the script
abbrev pub asked_clocks : Script → List PortName → Option (List ℕ) → List Command
asked_clocks script inputs asked = filter (is_asked inputs asked) script.commands

-- the generated clocks (SDC 2.1, create_generated_clock), in the order of the script
abbrev pub generates : What → Bool
generates (Generated name objects) = true
generates _ = false

abbrev pub is_generated : Command → Bool
is_generated c = generates c.what

abbrev pub generated : Script → List Command
generated script = filter is_generated script.commands

-- no clock is generated: what it clocks may not be judged by its source
abbrev pub HasNoGenerated : Script → Type 0
HasNoGenerated script = generated script ≡ []

-- the clock port of a script: of the clocks that may be judged there is one alone, whose source is that port bit, or there is none,
-- and none is asked for by its name
abbrev pub HasClock : Script → List PortName → Option (List ℕ) → Option (List ℕ) → Type 0
HasClock script inputs asked None = (asked ≡ None) × (asked_clocks script inputs asked ≡ [])
HasClock script inputs asked (Some bit) =
    (c : Command) × (asked_clocks script inputs asked ≡ c ∷ []) × (source_bit inputs (source_of c.what) ≡ Some bit)

-- the places of the data inputs
unfoldable pub data_places : List PortName → Option (List ℕ) → List ℕ
data_places inputs clock = filter (λ place. not (is_clock clock (name_at inputs place))) (places inputs)

-- the places of the input bits that an object of a case analysis names; `all_inputs` are the data inputs
abbrev pub case_places : List PortName → Option (List ℕ) → Object → List ℕ
case_places inputs clock AllInputs = data_places inputs clock
case_places inputs clock o = port_places inputs o

-- an object that a case analysis may have
abbrev pub is_case_object : Object → Bool
is_case_object AllInputs = true
is_case_object o = is_port_object o

-- it names data input bits, at least one, and not the clock port
pub record IsCaseObject (inputs : List PortName) (clock : Option (List ℕ)) (o : Object) : Type 0 where
  pub ports : is_case_object o ≡ true
  pub some : ¬ (case_places inputs clock o ≡ [])
  pub no_clock : All (λ place. is_clock clock (name_at inputs place) ≡ false) (case_places inputs clock o)

-- the objects of a case analysis
abbrev pub case_objects : What → List Object
case_objects (Case value objects) = objects
case_objects _ = []

-- an input bit, by its place, is given a value at a line
abbrev pub given : ℕ → Bool → ℕ → Given
given line value place = record { line = line; value = value; input = place }

-- what a command gives
abbrev pub given_by : List PortName → Option (List ℕ) → ℕ → What → List Given
given_by inputs clock line (Case value objects) = map (given line value) (flat_map (case_places inputs clock) objects)
given_by inputs clock line _ = []

-- what all case analyses of a script give, in their order
unfoldable pub all_given : Script → List PortName → Option (List ℕ) → List Given
all_given script inputs clock = flat_map (λ (c : Command). given_by inputs clock c.line c.what) script.commands

-- each object of each case analysis names data input bits
abbrev pub AreCaseObjects : Script → List PortName → Option (List ℕ) → Type 0
AreCaseObjects script inputs clock = All (λ (c : Command). All (IsCaseObject inputs clock) (case_objects c.what)) script.commands

-- the names of settings
abbrev pub setting_names : List Setting → List (List ℕ)
setting_names settings = map (λ (s : Setting). s.name) settings

-- the setting that what is given says
abbrev pub setting_of : List PortName → Given → Setting
setting_of inputs g = record { name = name_at inputs g.input; value = g.value }

-- the fixed inputs are those that are given a value, each once with its value, in the order in which they are first given one,
-- and none is a reset
pub record AreFixed (inputs : List PortName) (resets : List Setting) (givens : List Given) (fixed : List Setting) : Type 0 where
  pub no_reset : (g : Given) → Contains givens g → ¬ Contains (setting_names resets) (name_at inputs g.input)
  pub all : (g : Given) → Contains givens g → Contains fixed (setting_of inputs g)
  pub only : (f : Setting) → Contains fixed f → (g : Given) × Contains givens g × (setting_of inputs g ≡ f)
  pub once : are_distinct (setting_names fixed) ≡ true
  pub order : setting_names fixed ≡ each_once (map (λ (g : Given). name_at inputs g.input) givens)

-- the settings of a script among these input bits, with these resets, the clock of a name being judged, if one is asked for
pub record AreSettings (script : Script) (inputs : List PortName) (resets : List Setting) (asked : Option (List ℕ)) (s : Settings) : Type 0 where
  pub clock : HasClock script inputs asked s.clock
  pub generated : HasNoGenerated script
  pub objects : AreCaseObjects script inputs s.clock
  pub fixed : AreFixed inputs resets (all_given script inputs s.clock) s.fixed
