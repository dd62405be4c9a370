-- The first word of a command, and the refusals that name the command or one of its words.
use Rattle.std.specs.Prelude.{ℕ, if◌then◌else◌, List, Option, Some, None, Result, Ok, Err}
use Rattle.script_types.specs.declared.faults.SdcFault.{SdcFault}
use Rattle.script_types.specs.declared.faults.SdcFault.TheVariants as fault
use Rattle.sdc_values.specs.declared.values.Value.{Value}
use Rattle.sdc_values.specs.declared.values.Value.TheVariants.{Text, Objects}
use Rattle.sdc_values.specs.NestedKinds.{is_option}
use Rattle.sdc_text.specs.declared.heads.Head.{Head}

-- this word is not taken there, or lacks what its reading needs
abbrev pub bad_option : Head → List ℕ → SdcFault
bad_option head word = fault.BadOption head.line word

-- this word is no number as one is wanted there
abbrev pub bad_number : Head → List ℕ → SdcFault
bad_number head word = fault.BadNumber head.line word

-- the command lacks a word that its reading needs
abbrev pub lacking : Head → SdcFault
lacking head = bad_option head head.name

-- how a refusal names a word: by its text, and where it has none by the command's own name
abbrev pub named_by : Head → Value → List ℕ
named_by head (Text text) = text
named_by head (Objects objects) = head.name

-- the command has this word too many
abbrev pub surplus : Head → Value → SdcFault
surplus head value = bad_option head (named_by head value)

-- the text of a word that has to be one
abbrev pub wanted_text : Head → Value → Result (List ℕ) SdcFault
wanted_text head (Text text) = Ok text
wanted_text head (Objects objects) = Err (lacking head)

-- the option that a word is, however it is spelled
abbrev pub option_of : Value → Option (List ℕ)
option_of (Text text) = if is_option text then Some text else None
option_of (Objects objects) = None
