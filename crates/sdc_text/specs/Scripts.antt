-- The script that a text is.
use Rattle.std.specs.Prelude.{◌≡◌, ℕ, zero, suc, ◌≤◌, Bool, true, false, if◌then◌else◌, List, length, Option, Some, None, Result, Ok, Err}
use Rattle.texts.specs.Rules.{◌>>=◌, offset_of}
use Rattle.sdc_words.specs.declared.faults.WordFault.{WordFault}
use Rattle.sdc_words.specs.declared.words.RawCommand.{RawCommand}
use Rattle.sdc_words.specs.Commands.{command_at}
use Rattle.sdc_words.specs.Faults.{of_words}
use Rattle.sdc_words.specs.Lines.{cleaned, original}
use Rattle.script_types.specs.declared.faults.SdcFault.{SdcFault}
use Rattle.script_types.specs.declared.faults.SdcFault.TheVariants as fault
use Rattle.script_types.specs.declared.scripts.Script.{Script}
use Rattle.script_types.specs.declared.scripts.What.{What}
use Rattle.run_options.specs.declared.forms.ScriptForm.{ScriptForm}
use Rattle.sdc_text.specs.declared.progresses.Progress.{Progress}
use Rattle.sdc_text.specs.Progresses.{fresh, after_command, with_command}

-- what is read of words, with a fault as one of a script
abbrev pub lifted : {A : Type 0} → Result A WordFault → Result A SdcFault
lifted (Ok found) = Ok found
lifted (Err e) = Err (of_words e)

-- if a command is read next, it is passed over, and says this
abbrev pub PassesNext : ScriptForm → Result (Option RawCommand × List ℕ) WordFault → Progress → What → Type 0
PassesNext form read p what =
    (command : RawCommand) (left : List ℕ) → read ≡ Ok (Some command, left) → after_command form p command ≡ Ok (with_command p command.line what)

-- whether a command is left of the text, what is known after it, and what is left then
unfoldable pub next_at : ScriptForm → List ℕ → Progress → List ℕ → Result ((Bool × Progress) × List ℕ) SdcFault
next_at form text p s = lifted (command_at text s) >>= λ c. elim c.0 [
  | Some command ↦ after_command form p command >>= λ more. Ok ((true, more), c.1)
  | None ↦ Ok ((false, p), c.1)
]

-- after all commands of which this is left of the text; of fewer than n
unfoldable pub progress_from : ℕ → ScriptForm → List ℕ → Progress → List ℕ → Result Progress SdcFault
progress_from zero form text p s = Err (fault.Syntax (offset_of (length text) s))
progress_from (suc n) form text p s = next_at form text p s >>= λ r. if (r.0).0 then progress_from n form text (r.0).1 r.1 else Ok (r.0).1

-- after all commands of a text without carriage returns at its lines' ends
abbrev pub progress_of : ScriptForm → List ℕ → Result Progress SdcFault
progress_of form text = progress_from (suc (length text)) form text fresh text

-- a fault in the cleaned text, as one at its place in the text
abbrev pub placed_fault : List ℕ → SdcFault → SdcFault
placed_fault text (fault.Syntax place) = fault.Syntax (original text place)
placed_fault text (fault.UnknownCommand line word) = fault.UnknownCommand line word
placed_fault text (fault.UnknownVariable line name) = fault.UnknownVariable line name
placed_fault text (fault.BadOption line word) = fault.BadOption line word
placed_fault text (fault.BadNumber line word) = fault.BadNumber line word
placed_fault text fault.Memory = fault.Memory
placed_fault text (fault.Deep place) = fault.Deep (original text place)

abbrev pub placed : List ℕ → Result Progress SdcFault → Result Script SdcFault
placed text (Ok p) = Ok (record { commands = p.commands })
placed text (Err e) = Err (placed_fault text e)

-- the script that a text is in this form, or the fault that it has
unfoldable pub script_of : ScriptForm → List ℕ → Result Script SdcFault
script_of form text = placed text (progress_of form (cleaned text))

-- a place that a fault names lies in a text of this length
abbrev pub IsWithin : ℕ → SdcFault → Type 0
IsWithin len (fault.Syntax place) = place ≤ len
IsWithin len (fault.UnknownCommand line word) = Unit {0}
IsWithin len (fault.UnknownVariable line name) = Unit {0}
IsWithin len (fault.BadOption line word) = Unit {0}
IsWithin len (fault.BadNumber line word) = Unit {0}
IsWithin len fault.Memory = Unit {0}
IsWithin len (fault.Deep place) = place ≤ len
