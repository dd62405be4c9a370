-- Nested commands that give objects of a class, or all objects of a kind.
use Rattle.std.specs.Prelude.{ℕ, zero, suc, Bool, true, false, not, ◌&&◌, is_some, if◌then◌else◌, List, [], ◌∷◌, ◌++◌, length, drop, Some, None, Result, Ok, Err}
use Rattle.texts.specs.Rules.{◌>>=◌}
use Rattle.sdc_words.specs.declared.words.Word.{Word}
use Rattle.sdc_words.specs.declared.words.Word.TheVariants as word
use Rattle.script_types.specs.declared.faults.SdcFault.{SdcFault}
use Rattle.script_types.specs.declared.faults.SdcFault.TheVariants as fault
use Rattle.sdc_values.specs.declared.gets.Asking.{Asking}
use Rattle.sdc_values.specs.declared.gets.Level.{Level}
use Rattle.sdc_values.specs.declared.gets.Level.TheVariants as level
use Rattle.script_types.specs.declared.objects.Class.{Class}
use Rattle.script_types.specs.declared.objects.Object.{Object}
use Rattle.script_types.specs.declared.objects.Object.TheVariants as object
use Rattle.sdc_values.specs.declared.values.Value.{Value}
use Rattle.sdc_values.specs.declared.values.Value.TheVariants.{Text, Objects}
use Rattle.sdc_values.specs.Lists.{list_at}
use Rattle.sdc_values.specs.declared.nested_kinds.Nesting.{Nesting}
use Rattle.sdc_values.specs.NestedKinds.{is_wide, lists_texts, is_no_clocks, is_option, is_hier, is_quiet}
use Rattle.sdc_values.specs.Texts.{value_by}
use Rattle.sdc_values.specs.Variables.{Vars}

-- a word too many in a command of this name: it is told itself where it is a text
abbrev pub surplus : ℕ → List ℕ → Value → SdcFault
surplus line own (Text text) = fault.BadOption line text
surplus line own (Objects objects) = fault.BadOption line own

-- no word is read yet
abbrev pub asking_nothing : Asking
asking_nothing = record { pattern = None; hier = false; level = level.Own; listed = [] }

-- a text that is no option is the list of patterns, of which there is one
abbrev pub with_pattern : ℕ → ℕ → Asking → List ℕ → Result Asking SdcFault
with_pattern line offset asking text = elim asking.pattern [
  | None ↦ Ok (record asking { pattern = Some (record { offset = offset; text = text }) })
  | Some pattern ↦ Err (fault.BadOption line text)
]

-- a text among the words of a `get_` command
unfoldable pub adds_text : ℕ → ℕ → Asking → List ℕ → Result Asking SdcFault
adds_text line offset asking text =
    if is_hier text then Ok (record asking { hier = true })
    else if is_quiet text then Ok asking
    else if is_option text then Err (fault.BadOption line text)
    else with_pattern line offset asking text

-- the name of a nested command, whose words are patterns
unfoldable pub adds_name : ℕ → List ℕ → Asking → List ℕ → Result Asking SdcFault
adds_name line own asking name = if lists_texts name then Ok (record asking { level = level.Listed }) else Err (fault.BadOption line own)

-- a text among the words of a `get_` command or of the list nested in it, by how far that is read; a blank follows each of
-- the list's
unfoldable pub adds_by : Level → ℕ → List ℕ → ℕ → Asking → List ℕ → Result Asking SdcFault
adds_by level.Own line own offset asking text = adds_text line offset asking text
adds_by level.Begun line own offset asking text = adds_name line own asking text
adds_by level.Listed line own offset asking text = Ok (record asking { listed = asking.listed ++ text ++ 32 ∷ [] })

-- a value among them: no list of objects may stand there
unfoldable pub adds_value : ℕ → List ℕ → ℕ → Asking → Value → Result Asking SdcFault
adds_value line own offset asking (Text text) = adds_by asking.level line own offset asking text
adds_value line own offset asking (Objects objects) = Err (fault.BadOption line own)

abbrev pub is_own : Level → Bool
is_own level.Own = true
is_own level.Begun = false
is_own level.Listed = false

-- a `[` among them: in the wide way a list begins, where no pattern is read yet
unfoldable pub opens : Nesting → ℕ → List ℕ → Asking → Result Asking SdcFault
opens nesting line own asking =
    if is_wide nesting && (is_own asking.level && not (is_some asking.pattern)) then Ok (record asking { level = level.Begun })
    else Err (fault.BadOption line own)

-- a `]` that ends the list, whose texts are the patterns
unfoldable pub ends_list : Level → ℕ → ℕ → List ℕ → Asking → Result Asking SdcFault
ends_list level.Own line place own asking = Ok asking
ends_list level.Begun line place own asking = Err (fault.BadOption line own)
ends_list level.Listed line place own asking =
    Ok (record asking { pattern = Some (record { offset = place; text = asking.listed }); level = level.Own; listed = [] })

-- what a `get_` command of this name gives after all its words
unfoldable pub asked : ℕ → List ℕ → Class → Asking → Result (List Object) SdcFault
asked line own class asking = elim asking.pattern [
  | None ↦ Err (fault.BadOption line own)
  | Some pattern ↦ list_at pattern.offset class asking.hier pattern.text
]

-- the `]` comes next
abbrev pub closes : List Word → Bool
closes (word.Closes ∷ ws) = true
closes ws = false

-- the `]` of the command itself comes next
abbrev pub ends : Asking → List Word → Bool
ends asking ws = closes ws && is_own asking.level

-- what is asked after the next word of a `get_` command. Where there is none its bracket is not closed; the outermost
-- bracket stands at this place
unfoldable pub asks : Nesting → Vars → ℕ → ℕ → List ℕ → Asking → List Word → Result Asking SdcFault
asks nesting vars line place own asking [] = Err (fault.Syntax place)
asks nesting vars line place own asking (word.Closes ∷ ws) = ends_list asking.level line place own asking
asks nesting vars line place own asking (word.Opens offset ∷ ws) = opens nesting line own asking
asks nesting vars line place own asking (word.Text offset pieces ∷ ws) =
    value_by vars line offset pieces >>= λ value. adds_value line own offset asking value

-- the words of a `get_` command of this name up to its `]`, after those read before: its objects, and the words that follow;
-- of fewer than n words
unfoldable pub get_from : ℕ → Nesting → Vars → ℕ → ℕ → List ℕ → Class → Asking → List Word → Result (List Object × List Word) SdcFault
get_from zero nesting vars line place own class asking ws = Err (fault.Syntax place)
get_from (suc n) nesting vars line place own class asking ws =
    if ends asking ws then (asked line own class asking >>= λ objects. Ok (objects, drop 1 ws))
    else (asks nesting vars line place own asking ws >>= λ more. get_from n nesting vars line place own class more (drop 1 ws))

abbrev pub get_at : Nesting → Vars → ℕ → ℕ → List ℕ → Class → List Word → Result (List Object × List Word) SdcFault
get_at nesting vars line place own class ws = get_from (suc (length ws)) nesting vars line place own class asking_nothing ws

-- an `all_` command of this name has no words before its `]`
unfoldable pub all_at : Vars → ℕ → ℕ → List ℕ → Object → List Word → Result (List Object × List Word) SdcFault
all_at vars line place own object [] = Err (fault.Syntax place)
all_at vars line place own object (word.Closes ∷ ws) = Ok (object ∷ [], ws)
all_at vars line place own object (word.Opens offset ∷ ws) = Err (fault.BadOption line own)
all_at vars line place own object (word.Text offset pieces ∷ ws) = value_by vars line offset pieces >>= λ value. Err (surplus line own value)

-- a value is that option
abbrev pub says_no_clocks : Value → Bool
says_no_clocks (Text text) = is_no_clocks text
says_no_clocks (Objects objects) = false

-- what follows that option, or all words where it does not come first
unfoldable pub after_no_clocks : Vars → ℕ → List Word → Result (List Word) SdcFault
after_no_clocks vars line [] = Ok []
after_no_clocks vars line (word.Closes ∷ ws) = Ok (word.Closes ∷ ws)
after_no_clocks vars line (word.Opens offset ∷ ws) = Ok (word.Opens offset ∷ ws)
after_no_clocks vars line (word.Text offset pieces ∷ ws) =
    value_by vars line offset pieces >>= λ value. Ok (if says_no_clocks value then ws else word.Text offset pieces ∷ ws)

-- `all_inputs` of this name, which may have the option in the wide way
unfoldable pub inputs_at : Nesting → Vars → ℕ → ℕ → List ℕ → List Word → Result (List Object × List Word) SdcFault
inputs_at nesting vars line place own ws =
    if is_wide nesting then (after_no_clocks vars line ws >>= λ left. all_at vars line place own object.AllInputs left)
    else all_at vars line place own object.AllInputs ws
