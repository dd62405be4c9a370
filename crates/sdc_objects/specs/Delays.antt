-- The ports of a clock: those with a delay of it (SDC 2.1, set_input_delay and set_output_delay).
use Rattle.std.specs.Prelude.{ℕ, Bool, true, false, not, ◌&&◌, if◌then◌else◌, List, [], flat_map, Option, Some, None, slice_get}
use Rattle.std.specs.List.{list_any}
use Rattle.linked_types.specs.declared.names.Linked.{Linked}
use Rattle.script_types.specs.declared.objects.Object.{Object}
use Rattle.script_types.specs.declared.objects.Object.TheVariants.{Named, AllClocks}
use Rattle.script_types.specs.declared.scripts.What.{What}
use Rattle.script_types.specs.declared.scripts.What.TheVariants.{Clock as ClockCommand, Delay}
use Rattle.script_types.specs.declared.scripts.Command.{Command}
use Rattle.script_types.specs.declared.scripts.Script.{Script}
use Rattle.sdc_objects.specs.declared.things.Thing.{Thing}
use Rattle.sdc_objects.specs.declared.things.Place.TheVariants.{From}
use Rattle.sdc_objects.specs.declared.things.Side.{Side}
use Rattle.sdc_objects.specs.declared.things.Side.TheVariants.{In, Out}
use Rattle.sdc_settings.specs.Sources.{clock_name}
use Rattle.sdc_objects.specs.Clocks.{input_ports}
use Rattle.sdc_objects.specs.Things.{names_some, things_of}

-- after `-clock` an object names a clock of this name: a pattern by the name, and `all_clocks` whatever it is
abbrev pub is_clock_of : Option (List ℕ) → Object → Bool
is_clock_of name (Named q) = names_some q name
is_clock_of name AllClocks = true
is_clock_of name _ = false

-- a delay without `-clock` is one of no clock
abbrev pub is_delay_of : Option (List ℕ) → Option (List Object) → Bool
is_delay_of name None = false
is_delay_of name (Some clocks) = list_any (is_clock_of name) clocks

-- it is a delay of outputs on the side of the outputs, and else one of inputs
abbrev pub is_on : Side → Bool → Bool
is_on In output = not output
is_on Out output = output

-- what the objects name
abbrev pub things_of_all : Linked → Script → List Object → List Thing
things_of_all l script objects = flat_map (things_of l script From) objects

-- what has a delay on this side by a command, of a clock of this name
abbrev pub delayed_by : Linked → Script → Side → Option (List ℕ) → What → List Thing
delayed_by l script side name (Delay output clocks objects) = if is_on side output && is_delay_of name clocks then things_of_all l script objects else []
delayed_by l script side name _ = []

abbrev pub delayed : Linked → Script → Side → Option (List ℕ) → List Thing
delayed l script side name = flat_map (λ (c : Command). delayed_by l script side name c.what) script.commands

-- what has a delay on this side of the clock that a command makes
abbrev pub delayed_of : Linked → Script → Side → What → List Thing
delayed_of l script side (ClockCommand name source) = delayed l script side (clock_name (input_ports l.names) name source)
delayed_of l script side _ = []

abbrev pub delayed_of_some : Linked → Script → Side → Option Command → List Thing
delayed_of_some l script side None = []
delayed_of_some l script side (Some c) = delayed_of l script side c.what

-- the clock being that of the command at a place
abbrev pub delayed_at : Linked → Script → Side → ℕ → List Thing
delayed_at l script side place = delayed_of_some l script side (slice_get script.commands place)
