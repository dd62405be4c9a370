-- Timing exceptions: set_false_path and set_multicycle_path (SDC 2.1).
use Rattle.std.specs.Prelude.{ℕ, Bool, true, false, not, ◌&&◌, if◌then◌else◌, is_some, List, [], ◌∷◌, ◌++◌, Option, Some, None, Result, Ok, Err}
use Rattle.texts.specs.Rules.{◌>>=◌}
use Rattle.sdcv_base.specs.declared.kinds.Kind.{Kind}
use Rattle.sdcv_base.specs.declared.kinds.Kind.TheVariants as kind
use Rattle.sdcv_base.specs.declared.kinds.Edge.TheVariants as edges
use Rattle.script_types.specs.declared.faults.SdcFault.{SdcFault}
use Rattle.sdc_values.specs.declared.values.Value.{Value}
use Rattle.sdc_values.specs.declared.values.Value.TheVariants as value
use Rattle.sdc_values.specs.declared.values.Said.{Said}
use Rattle.sdc_values.specs.Lists.{objects_of}
use Rattle.script_types.specs.declared.scripts.Checks.{Checks}
use Rattle.script_types.specs.declared.scripts.Checks.TheVariants as checks
use Rattle.script_types.specs.declared.scripts.Exception.{Exception}
use Rattle.script_types.specs.declared.scripts.Held.{Held}
use Rattle.script_types.specs.declared.scripts.What.{What}
use Rattle.script_types.specs.declared.scripts.What.TheVariants as what
use Rattle.sdc_text.specs.declared.heads.Head.{Head}
use Rattle.sdc_text.specs.declared.options.PathCommand.{PathCommand}
use Rattle.sdc_text.specs.declared.options.PathCommand.TheVariants as path
use Rattle.sdc_text.specs.declared.options.PathOption.{PathOption}
use Rattle.sdc_text.specs.declared.options.PathOption.TheVariants as option
use Rattle.sdc_text.specs.declared.exceptions.Reading.{Reading}
use Rattle.sdc_text.specs.Heads.{bad_option, bad_number, lacking, surplus, wanted_text, option_of}
use Rattle.sdc_text.specs.Options.{path_option}
use Rattle.sdc_text.specs.Numbers.{is_whole, is_integer, multiplier}
use Rattle.sdcv_base.specs.Steps.{after_all}

-- before the first word
abbrev pub bare : Bool → PathCommand → Head → Reading
bare wide path head = record {
  wide = wide;
  head = head;
  path = path;
  awaited = None;
  from = None;
  edge = edges.Any;
  through = [];
  to = None;
  number = None;
  aside = None;
  has_setup = false;
  has_hold = false;
}

-- the option's word comes next
abbrev pub awaiting : Reading → PathOption → List ℕ → Reading
awaiting r option name = record r { awaited = Some (option, name) }

-- the command is set aside for the first such option
abbrev pub set_aside : Reading → List ℕ → Reading
set_aside r name = if is_some r.aside then r else record r { aside = Some name }

-- an option with at most one list, which is given or not
abbrev pub begun_once : Reading → PathOption → List ℕ → Bool → Result Reading SdcFault
begun_once r option name is_given = if is_given then Err (bad_option r.head name) else Ok (awaiting r option name)

-- an option begins: it awaits its word, or stands alone
unfoldable pub begun : Reading → List ℕ → PathOption → Result Reading SdcFault
begun r name (option.From edge) = begun_once r (option.From edge) name (is_some r.from)
begun r name option.Through = Ok (awaiting r option.Through name)
begun r name option.To = begun_once r option.To name (is_some r.to)
begun r name option.Setup = Ok (record r { has_setup = true })
begun r name option.Hold = Ok (record r { has_hold = true })
begun r name option.Comment = Ok (awaiting r option.Comment name)
begun r name option.Reference = Ok r
begun r name option.Multiplier = begun_once r option.Multiplier name (is_some r.number)
begun r name option.LeftOut = Ok (set_aside r name)
begun r name option.LeftOutList = Ok (awaiting (set_aside r name) option.LeftOutList name)

-- an option is given its word; that of an option with neither a list of objects nor a number changes nothing
unfoldable pub given : Reading → PathOption → Said → Result Reading SdcFault
given r (option.From edge) w = objects_of w >>= λ objects. Ok (record r { from = Some objects; edge = edge })
given r option.Through w = objects_of w >>= λ objects. Ok (record r { through = r.through ++ objects ∷ [] })
given r option.To w = objects_of w >>= λ objects. Ok (record r { to = Some objects })
given r option.Setup w = Ok r
given r option.Hold w = Ok r
given r option.Comment w = Ok r
given r option.Reference w = Ok r
given r option.Multiplier w = Ok (record r { number = Some w.value })
given r option.LeftOut w = Ok r
given r option.LeftOutList w = Ok r

abbrev pub is_multicycle : PathCommand → Bool
is_multicycle path.FalsePath = false
is_multicycle path.Multicycle = true

-- a word that is no option and no option's: the number of a multicycle path, which has one
unfoldable pub with_number : Reading → Value → Result Reading SdcFault
with_number r value = if is_multicycle r.path && not (is_some r.number) then Ok (record r { number = Some value }) else Err (surplus r.head value)

-- a word that is no option's
unfoldable pub with_word : Reading → Value → Result Reading SdcFault
with_word r value = elim (option_of value) [
  | Some name ↦ elim (path_option r.wide r.path name) [
    | Some option ↦ begun r name option
    | None ↦ Err (bad_option r.head name)
  ]
  | None ↦ with_number r value
]

-- what a word adds: it is the one that is awaited, or another
unfoldable pub adds_word : Reading → Said → Result Reading SdcFault
adds_word r w =
    let free = record r { awaited = None } in
    elim r.awaited [
      | Some a ↦ given free a.0 w
      | None ↦ with_word free w.value
    ]

-- only the hold check is meant
abbrev pub is_hold : Reading → Bool
is_hold r = r.has_hold && not r.has_setup

-- the kind of claim that the number of a multicycle path makes, and none where only the hold check is meant
abbrev pub kind_by : Reading → List ℕ → Result (Option Kind) SdcFault
kind_by r text =
    if is_hold r then (if is_whole text then Ok None else Err (bad_number r.head text))
    else elim (multiplier text) [
      | Some k ↦ Ok (Some (kind.Multi k))
      | None ↦ Err (bad_number r.head text)
    ]

-- the kind of claim that an exception makes, and none where only the hold check is meant
unfoldable pub kind_of : Reading → Result (Option Kind) SdcFault
kind_of r = elim r.number [
  | Some value ↦ wanted_text r.head value >>= λ text. kind_by r text
  | None ↦ Ok (if is_hold r then None else Some kind.False)
]

-- the checks that the options of an exception name, which has `-setup` wherever it has `-hold`
abbrev pub checks_of : Reading → Checks
checks_of r = if r.has_setup then (if r.has_hold then checks.Both else checks.Setup) else checks.Unsaid

-- an exception that makes claims of this kind
abbrev pub exception_by : Reading → Kind → Exception
exception_by r kind = record { kind = kind; checks = checks_of r; edge = r.edge; from = r.from; through = r.through; to = r.to }

-- the text that a number is, if there is one
abbrev pub number_text : Option Value → Option (List ℕ)
number_text None = None
number_text (Some (value.Text text)) = Some text
number_text (Some (value.Objects objects)) = None

-- a number that is whole, and no multiplier
unfoldable pub whole_beyond : Option (List ℕ) → Option (List ℕ)
whole_beyond None = None
whole_beyond (Some text) = if is_integer text && not (is_some (multiplier text)) then Some text else None

-- an exception about the hold check alone
abbrev pub held : Reading → Held
held r = record { number = number_text r.number; edge = r.edge; from = r.from; through = r.through; to = r.to }

-- an exception claims, or is about the hold check alone
abbrev pub exception_or_hold : Reading → Option Kind → What
exception_or_hold r (Some kind) = what.Claiming (exception_by r kind)
exception_or_hold r None = what.Hold (held r)

-- the number for which a claiming exception of a wide script is set aside: one that is whole, and no multiplier
unfoldable pub beyond : Reading → Option (List ℕ)
beyond r = if r.wide && not (is_hold r) then whole_beyond (number_text r.number) else None

-- an exception that no option sets aside
unfoldable pub claimed : Reading → Result What SdcFault
claimed r = elim (beyond r) [
  | Some text ↦ Ok (what.Aside text)
  | None ↦ kind_of r >>= λ kind. Ok (exception_or_hold r kind)
]

-- what all words together say: each option has its word, and a multicycle path its number
unfoldable pub concluded : Reading → Result What SdcFault
concluded r = elim r.awaited [
  | Some a ↦ Err (bad_option r.head a.1)
  | None ↦
      if is_multicycle r.path && not (is_some r.number) then Err (lacking r.head)
      else elim r.aside [
        | Some name ↦ Ok (what.Aside name)
        | None ↦ claimed r
      ]
]

-- what the words of an exception of a wide or a narrow script say
abbrev pub exception_of : Bool → PathCommand → Head → List Said → Result What SdcFault
exception_of wide path head words = after_all adds_word (bare wide path head) words >>= λ r. concluded r
