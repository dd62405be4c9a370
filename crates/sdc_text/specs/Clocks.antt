-- Clocks: create_clock and create_generated_clock (SDC 2.1).
use Rattle.std.specs.Prelude.{ℕ, is_some, if◌then◌else◌, List, [], Option, Some, None, Result, Ok, Err}
use Rattle.texts.specs.Rules.{◌>>=◌}
use Rattle.script_types.specs.declared.faults.SdcFault.{SdcFault}
use Rattle.script_types.specs.declared.objects.Object.{Object}
use Rattle.sdc_values.specs.declared.values.Said.{Said}
use Rattle.sdc_values.specs.Lists.{objects_of}
use Rattle.script_types.specs.declared.scripts.What.{What}
use Rattle.script_types.specs.declared.scripts.What.TheVariants as what
use Rattle.sdc_text.specs.declared.heads.Head.{Head}
use Rattle.sdc_text.specs.declared.options.ClockCommand.{ClockCommand}
use Rattle.sdc_text.specs.declared.options.ClockCommand.TheVariants as command
use Rattle.sdc_text.specs.declared.options.ClockOption.{ClockOption}
use Rattle.sdc_text.specs.declared.options.ClockOption.TheVariants as option
use Rattle.sdc_text.specs.declared.clocks.ClockReading.{ClockReading}
use Rattle.sdc_text.specs.Heads.{bad_option, lacking, surplus, wanted_text, option_of}
use Rattle.sdc_text.specs.Options.{clock_option}
use Rattle.sdcv_base.specs.Steps.{after_all}

-- before the first word
abbrev pub bare : ClockCommand → Head → ClockReading
bare command head = record { command = command; head = head; awaited = None; name = None; source = None }

-- an option begins: it awaits its word, or stands alone and changes nothing
unfoldable pub begun : ClockReading → List ℕ → ClockOption → ClockReading
begun r name option.Called = record r { awaited = Some (option.Called, name) }
begun r name option.Timing = record r { awaited = Some (option.Timing, name) }
begun r name option.Master = record r { awaited = Some (option.Master, name) }
begun r name option.Added = r

-- an option is given its word: the last name counts, and a period, waveform, factor or comment changes nothing, nor do the
-- objects of a master
unfoldable pub given : ClockReading → ClockOption → Said → Result ClockReading SdcFault
given r option.Called w = wanted_text r.head w.value >>= λ text. Ok (record r { name = Some text })
given r option.Timing w = Ok r
given r option.Master w = objects_of w >>= λ objects. Ok r
given r option.Added w = Ok r

-- a word that is no option and no option's: the source, of which there is one at most
unfoldable pub with_source : ClockReading → Said → Result ClockReading SdcFault
with_source r w = if is_some r.source then Err (surplus r.head w.value) else (objects_of w >>= λ objects. Ok (record r { source = Some objects }))

-- a word that is no option's
unfoldable pub with_word : ClockReading → Said → Result ClockReading SdcFault
with_word r w = elim (option_of w.value) [
  | Some name ↦ elim (clock_option r.command name) [
    | Some option ↦ Ok (begun r name option)
    | None ↦ Err (bad_option r.head name)
  ]
  | None ↦ with_source r w
]

-- what a word adds: it is the one that is awaited, or another
unfoldable pub adds_word : ClockReading → Said → Result ClockReading SdcFault
adds_word r w =
    let free = record r { awaited = None } in
    elim r.awaited [
      | Some a ↦ given free a.0 w
      | None ↦ with_word free w
    ]

-- no objects where none are given
abbrev pub source_of : Option (List Object) → List Object
source_of (Some objects) = objects
source_of None = []

-- a generated clock, which has a name and objects
unfoldable pub generated : Head → Option (List ℕ) → Option (List Object) → Result What SdcFault
generated head (Some name) (Some objects) = Ok (what.Generated name objects)
generated head (Some name) None = Err (lacking head)
generated head None source = Err (lacking head)

-- the clock that a command makes
unfoldable pub made : ClockCommand → ClockReading → Result What SdcFault
made command.Create r = Ok (what.Clock r.name (source_of r.source))
made command.Generate r = generated r.head r.name r.source

-- what all words together say: each option has its word
abbrev pub concluded : ClockReading → Result What SdcFault
concluded r = elim r.awaited [
  | Some a ↦ Err (bad_option r.head a.1)
  | None ↦ made r.command r
]

-- what a clock's words say
abbrev pub clock_of : ClockCommand → Head → List Said → Result What SdcFault
clock_of command head words = after_all adds_word (bare command head) words >>= λ r. concluded r
