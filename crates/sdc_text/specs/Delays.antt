-- Delays of ports: set_input_delay and set_output_delay (SDC 2.1).
use Rattle.std.specs.Prelude.{ℕ, zero, suc, Bool, true, false, not, ◌&&◌, is_some, if◌then◌else◌, List, [], ◌∷◌, ◌++◌, length, Option, Some, None, Result, Ok, Err}
use Rattle.texts.specs.Rules.{◌>>=◌}
use Rattle.script_types.specs.declared.faults.SdcFault.{SdcFault}
use Rattle.script_types.specs.declared.faults.SdcFault.TheVariants as fault
use Rattle.script_types.specs.declared.objects.Class.{Class}
use Rattle.script_types.specs.declared.objects.Class.TheVariants as class
use Rattle.script_types.specs.declared.objects.Object.{Object}
use Rattle.script_types.specs.declared.objects.Object.TheVariants as object
use Rattle.script_types.specs.declared.objects.Query.{Query}
use Rattle.script_types.specs.declared.scripts.What.{What}
use Rattle.script_types.specs.declared.scripts.What.TheVariants as what
use Rattle.sdc_values.specs.declared.values.Said.{Said}
use Rattle.sdc_words.specs.declared.words.Word.{Word}
use Rattle.sdc_words.specs.declared.words.Word.TheVariants as word
use Rattle.sdc_values.specs.declared.values.Value.TheVariants.{Objects}
use Rattle.sdc_values.specs.Collections.{after_bracket, collection_at}
use Rattle.sdc_values.specs.Lists.{objects_of}
use Rattle.sdc_values.specs.Texts.{said_text}
use Rattle.sdc_values.specs.Variables.{Vars}
use Rattle.sdc_text.specs.declared.delays.DelayReading.{DelayReading}
use Rattle.sdc_text.specs.declared.delays.Role.{Role}
use Rattle.sdc_text.specs.declared.delays.Role.TheVariants as role
use Rattle.sdc_text.specs.declared.options.DelayOption.{DelayOption}
use Rattle.sdc_text.specs.declared.options.DelayOption.TheVariants as option
use Rattle.sdc_text.specs.Heads.{option_of}
use Rattle.sdc_text.specs.Options.{delay_option}
use Rattle.sdcv_base.specs.Steps.{after_all}

-- the words are not those of a delay that is read; which of them it is, is not told
abbrev pub unread : SdcFault
unread = fault.Syntax 0

-- what a text of a list of ports, or of clocks, is a pattern of
abbrev pub class_of : Role → Class
class_of role.Ports = class.Ports
class_of role.Clocks = class.Clocks

-- a pattern of this class, or of any, may stand in such a list
abbrev pub is_class : Role → Class → Bool
is_class role.Ports class.Ports = true
is_class role.Clocks class.Clocks = true
is_class role class.Any = true
is_class role other = false

-- a query as one of such a list
abbrev pub fitted_query : Role → Query → Object
fitted_query role q = object.Named (record q { class = class_of role })

-- the object that an object is in such a list, if it may stand there
unfoldable pub fitted : Role → Object → Option Object
fitted role (object.Named q) = if is_class role q.class then Some (fitted_query role q) else None
fitted role.Ports object.AllInputs = Some object.AllInputs
fitted role.Ports object.AllOutputs = Some object.AllOutputs
fitted role.Clocks object.AllClocks = Some object.AllClocks
fitted role other = None

-- an object more of such a list
unfoldable pub adds_fitted : Role → List Object → Object → Result (List Object) SdcFault
adds_fitted role found object = elim (fitted role object) [
  | Some fit ↦ Ok (found ++ fit ∷ [])
  | None ↦ Err unread
]

-- the list that a word says
unfoldable pub listed : Role → Said → Result (List Object) SdcFault
listed role w = objects_of w >>= λ objects. after_all (adds_fitted role) [] objects

-- before the first word
abbrev pub bare : DelayReading
bare = record { awaits_clocks = false; clocks = None; has_value = false; objects = None }

-- an option begins: it awaits its clocks, of which there is one list at most, or stands alone and changes nothing
unfoldable pub begun : DelayReading → DelayOption → Result DelayReading SdcFault
begun r option.Clocks = if is_some r.clocks then Err unread else Ok (record r { awaits_clocks = true })
begun r option.Alone = Ok r

-- a word that is no option and no option's: first the value, which is not looked at, then the ports
unfoldable pub with_plain : DelayReading → Said → Result DelayReading SdcFault
with_plain r w =
    if r.has_value then (
    if is_some r.objects then Err unread
    else (listed role.Ports w >>= λ objects. Ok (record r { objects = Some objects }))
    ) else Ok (record r { has_value = true })

-- a word that is no option's
unfoldable pub with_word : DelayReading → Said → Result DelayReading SdcFault
with_word r w = elim (option_of w.value) [
  | Some name ↦ elim (delay_option name) [
    | Some option ↦ begun r option
    | None ↦ Err unread
  ]
  | None ↦ with_plain r w
]

-- what a word adds: it is the list of clocks that is awaited, or another
unfoldable pub adds_word : DelayReading → Said → Result DelayReading SdcFault
adds_word r w =
    if r.awaits_clocks then (listed role.Clocks w >>= λ clocks. Ok (record r { awaits_clocks = false; clocks = Some clocks }))
    else with_word r w

-- what all words together say: the option has its word, and there are ports
unfoldable pub concluded : Bool → DelayReading → Result What SdcFault
concluded output r =
    if r.awaits_clocks then Err unread
    else elim r.objects [
      | Some objects ↦ Ok (what.Delay output r.clocks objects)
      | None ↦ Err unread
    ]

-- the value comes next, unless an option does
abbrev pub takes_value : DelayReading → Bool
takes_value r = not r.awaits_clocks && not r.has_value

abbrev pub with_value : DelayReading → DelayReading
with_value r = record r { has_value = true }

-- what a text adds; where a variable of it is not set, it may be the value, which is not looked up
unfoldable pub with_text : DelayReading → Result Said SdcFault → Result DelayReading SdcFault
with_text r (Ok w) = adds_word r w
with_text r (Err why) = if takes_value r then Ok (with_value r) else Err why

-- what is read after the nested command whose `[` stands at this place, and what follows it; it may be the value
unfoldable pub bracket_step : Vars → ℕ → ℕ → DelayReading → List Word → Result (DelayReading × List Word) SdcFault
bracket_step vars line offset r ws =
    if takes_value r then Ok (with_value r, after_bracket 0 ws)
    else (
    collection_at vars line offset ws >>= λ p. adds_word r (record { offset = offset; value = Objects p.0 }) >>= λ more. Ok (more, p.1)
    )

-- what is read after the first word, and what follows it
unfoldable pub delay_step : Vars → ℕ → DelayReading → List Word → Result (DelayReading × List Word) SdcFault
delay_step vars line r [] = Ok (r, [])
delay_step vars line r (word.Closes ∷ ws) = Ok (r, ws)
delay_step vars line r (word.Text offset pieces ∷ ws) = with_text r (said_text vars line offset pieces) >>= λ more. Ok (more, ws)
delay_step vars line r (word.Opens offset ∷ ws) = bracket_step vars line offset r ws

-- what is read after all these words; of at most n
unfoldable pub delay_from : ℕ → Vars → ℕ → DelayReading → List Word → Result DelayReading SdcFault
delay_from n vars line r [] = Ok r
delay_from zero vars line r (w ∷ ws) = Ok r
delay_from (suc n) vars line r (w ∷ ws) = delay_step vars line r (w ∷ ws) >>= λ p. delay_from n vars line p.0 p.1

-- what the words of a delay say, of outputs or of inputs
abbrev pub delay_of : Bool → Vars → ℕ → List Word → Result What SdcFault
delay_of output vars line words = delay_from (length words) vars line bare words >>= λ r. concluded output r
