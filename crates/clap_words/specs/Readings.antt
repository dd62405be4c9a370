-- The texts that `clap` finds in words for the arguments of a command.
use Rattle.std.specs.Prelude.{List, [], ◌∷◌, ◌++◌, map, fold, Option, None, Some, if◌then◌else◌}
use Rattle.std.specs.List.{flat_map, list_any}
use Rattle.std.specs.Option.{option_map}
use Rattle.std.specs.Str.{bytes_eq}
use Rattle.clap.specs.Walk.{is_empty}
use Rattle.clap.specs.Words.{Row, fault_of, first_of, subcommand_of}
use Rattle.clap_words.specs.declared.readings.Given.{Given as TheGiven}
use Rattle.clap_words.specs.declared.readings.Reading.{Reading as TheReading}
use Rattle.clap_words.specs.Commands.{CommandRow, OptionRow, Text, command_rows}
use Rattle.clap_words.specs.Apps.{sdcv_app}

-- the text of an argument: the word at a position, the value of an option, or `true` for a flag that stands
abbrev pub Given : Type 0
Given = Text × Text

-- the name of a command, and the texts of its arguments by their ids
pub record Reading : Type 0 where
  pub name : Text
  pub given : List Given

-- the ids of a command's arguments
abbrev pub row_ids : CommandRow → List Text
row_ids row = row.positions ++ map (λ (o : OptionRow). o.id) row.options

-- ids, with one more where it is none of them
abbrev pub with_id : List Text → Text → List Text
with_id ids id = if list_any (bytes_eq id) ids then ids else ids ++ id ∷ []

-- the ids of the arguments of all commands, each once
abbrev pub argument_ids : List Text
argument_ids = fold with_id [] (flat_map row_ids command_rows)

-- an argument with its text, if it has one
abbrev pub given_as : Text → Option Text → List Given
given_as id None = []
given_as id (Some text) = (id, text) ∷ []

abbrev pub texts_in : List Row → List Given
texts_in rows = flat_map (λ id. given_as id (first_of id rows)) argument_ids

abbrev pub named : Text × List Row → Reading
named found = record { name = found.0; given = texts_in found.1 }

-- the command that `clap` finds in the words: none where it has a fault to tell
abbrev pub clap_reading : List Text → Option Reading
clap_reading words = if is_empty (fault_of sdcv_app words) then option_map named (subcommand_of sdcv_app words) else None

-- a reading of the program without its references
abbrev pub seen_given : TheGiven → Given
seen_given given = (given.id.now, given.text.now)

abbrev pub seen_reading : TheReading → Reading
seen_reading reading = record { name = reading.name.now; given = map seen_given reading.given.items }
