-- Commands one after the other.
use Rattle.std.specs.Prelude.{◌≡◌, ℕ, Bool, List, [], ◌∷◌, ◌++◌, drop, Option, Some, None, Result, Ok, Err}
use Rattle.texts.specs.Rules.{◌>>=◌}
use Rattle.sdc_words.specs.declared.words.Word.{Word}
use Rattle.sdc_words.specs.declared.words.RawCommand.{RawCommand}
use Rattle.script_types.specs.declared.faults.SdcFault.{SdcFault}
use Rattle.script_types.specs.declared.faults.SdcFault.TheVariants as fault
use Rattle.sdc_values.specs.declared.values.Said.{Said}
use Rattle.run_options.specs.declared.forms.ScriptForm.{ScriptForm}
use Rattle.sdc_values.specs.declared.nested_kinds.Nesting.{Nesting}
use Rattle.sdc_values.specs.Variables.{Vars, with_value}
use Rattle.sdc_values.specs.Lines.{said_words, command_name}
use Rattle.script_types.specs.declared.scripts.What.{What}
use Rattle.script_types.specs.declared.scripts.What.TheVariants as what
use Rattle.sdc_text.specs.declared.heads.Head.{Head}
use Rattle.sdc_text.specs.declared.kinds.CommandKind.{CommandKind}
use Rattle.sdc_text.specs.declared.kinds.CommandKind.TheVariants as kind
use Rattle.sdc_text.specs.declared.progresses.Progress.{Progress}
use Rattle.sdc_text.specs.declared.options.ClockCommand.TheVariants as clock
use Rattle.sdc_text.specs.Forms.{is_wide, nesting_of}
use Rattle.sdc_text.specs.Kinds.{command_kind}
use Rattle.sdc_text.specs.Exceptions.{exception_of}
use Rattle.sdc_text.specs.Clocks.{clock_of}
use Rattle.sdc_text.specs.Cases.{case_of, constant_of, set_of}
use Rattle.sdc_text.specs.Places.{scope_of, instance_of, separator_of}
use Rattle.sdc_text.specs.Delays.{delay_of}

-- before the first command
abbrev pub fresh : Progress
fresh = record { variables = []; commands = [] }

-- a command on this line says this
abbrev pub with_command : Progress → ℕ → What → Progress
with_command p line what = record p { commands = p.commands ++ record { line = line; what = what } ∷ [] }

-- after the words of a command that sets a variable, for the commands that follow it
unfoldable pub after_set : Progress → Head → List Said → Result Progress SdcFault
after_set p head said = set_of head said >>= λ v. Ok (record {
  variables = with_value p.variables v.0 v.1;
  commands = p.commands ++ record { line = head.line; what = what.Passed } ∷ [];
})

-- what the words of a command say that sets no variable, and for whose words something may be refused
abbrev pub what_of : ScriptForm → CommandKind → Head → List Said → Result What SdcFault
what_of form kind.Set head said = Ok what.Passed
what_of form kind.Clock head said = clock_of clock.Create head said
what_of form kind.Case head said = case_of head said
what_of form (kind.Path path) head said = exception_of (is_wide form) path head said
what_of form kind.Passed head said = Ok what.Passed
what_of form kind.Unjudged head said = Ok what.Passed
what_of form kind.Scope head said = Ok what.Passed
what_of form (kind.Delay output) head said = Ok what.Passed
what_of form (kind.Constant bit) head said = constant_of bit head said
what_of form kind.Instance head said = instance_of head said
what_of form kind.Separator head said = separator_of head said
what_of form kind.Generated head said = clock_of clock.Generate head said

-- what was read, or else this
abbrev pub what_or : What → Result What SdcFault → What
what_or other (Ok what) = what
what_or other (Err why) = other

-- what the words of current_design say, which follow its name
abbrev pub scope_by : Nesting → Vars → ℕ → List Word → Result What SdcFault
scope_by nesting vars line words = said_words nesting vars line words >>= λ said. Ok (scope_of said)

-- after the words of a command of another kind
abbrev pub after_said : ScriptForm → Progress → CommandKind → Head → List Said → Result Progress SdcFault
after_said form p kind head said = what_of form kind head said >>= λ what. Ok (with_command p head.line what)

-- after a command that sets a variable, where the words follow its name
abbrev pub after_set_words : ScriptForm → Progress → Head → List Word → Result Progress SdcFault
after_set_words form p head words = said_words (nesting_of form) p.variables head.line words >>= λ said. after_set p head said

-- after a command of another kind, where the words follow its name
abbrev pub after_told_words : ScriptForm → Progress → CommandKind → Head → List Word → Result Progress SdcFault
after_told_words form p kind head words =
    said_words (nesting_of form) p.variables head.line words >>= λ said. after_said form p kind head said

-- after current_design: nothing is refused for its words
abbrev pub after_scope : ScriptForm → Progress → Head → List Word → Result Progress SdcFault
after_scope form p head words =
    Ok (with_command p head.line (what_or what.Passed (scope_by (nesting_of form) p.variables head.line words)))

-- after a delay: nothing is refused for its words
abbrev pub after_delay : Progress → Bool → Head → List Word → Result Progress SdcFault
after_delay p output head words =
    Ok (with_command p head.line (what_or (what.Unjudged head.name) (delay_of output p.variables head.line words)))

-- after a command of this kind, where the words follow its name; no word of a command that is passed over is valued
unfoldable pub after_kind : ScriptForm → Progress → CommandKind → Head → List Word → Result Progress SdcFault
after_kind form p kind.Set head words = after_set_words form p head words
after_kind form p kind.Clock head words = after_told_words form p kind.Clock head words
after_kind form p kind.Case head words = after_told_words form p kind.Case head words
after_kind form p (kind.Path path) head words = after_told_words form p (kind.Path path) head words
after_kind form p kind.Passed head words = Ok (with_command p head.line what.Passed)
after_kind form p kind.Unjudged head words = Ok (with_command p head.line (what.Unjudged head.name))
after_kind form p kind.Scope head words = after_scope form p head words
after_kind form p (kind.Delay output) head words = after_delay p output head words
after_kind form p (kind.Constant bit) head words = after_told_words form p (kind.Constant bit) head words
after_kind form p kind.Instance head words = after_told_words form p kind.Instance head words
after_kind form p kind.Separator head words = after_told_words form p kind.Separator head words
after_kind form p kind.Generated head words = after_told_words form p kind.Generated head words

-- what a command of this kind and name says that is passed over, whose words are not valued
abbrev pub passed_as : Option CommandKind → List ℕ → Option What
passed_as (Some kind.Passed) name = Some what.Passed
passed_as (Some kind.Unjudged) name = Some (what.Unjudged name)
passed_as other name = None

-- a command that begins like this one is passed over, and says this
abbrev pub IsPassedOver : ScriptForm → Progress → RawCommand → What → Type 0
IsPassedOver form p front what =
    (name : List ℕ) × (command_name p.variables front.line front.words ≡ Ok name) × (passed_as (command_kind form name) name ≡ Some what)

-- after a command: its first word names it
unfoldable pub after_command : ScriptForm → Progress → RawCommand → Result Progress SdcFault
after_command form p command =
    command_name p.variables command.line command.words >>= λ name. elim (command_kind form name) [
      | Some kind ↦ after_kind form p kind (record { line = command.line; name = name }) (drop 1 command.words)
      | None ↦ Err (fault.UnknownCommand command.line name)
    ]
