-- The commands of a text, each with its line.
use Rattle.std.specs.Prelude.{◌≡◌, ℕ, ◌==◌, if◌then◌else◌, List, length, take, Option, Some, None, Result, Ok}
use Rattle.std.specs.Option.{option_map}
use Rattle.sdcv_base.specs.Cursors as cursors
use Rattle.texts.specs.Rules.{◌>>=◌}
use Rattle.sdc_words.specs.declared.faults.WordFault.{WordFault}
use Rattle.sdc_words.specs.declared.words.RawCommand.{RawCommand}
use Rattle.sdc_words.specs.declared.commands.Commands.{Commands}
use Rattle.sdc_words.specs.Blanks.{after_blanks}
use Rattle.sdc_words.specs.Lines.{line_of}
use Rattle.sdc_words.specs.Words.{words_at}

-- the whole text, and what of it is left
unfoldable pub text_of : Commands → List ℕ
text_of commands = cursors.text_of commands.cursor

unfoldable pub left_of : Commands → List ℕ
left_of commands = cursors.rest commands.cursor

-- the next command of a text of which this is left, and none at its end; what follows begins with the command's end
unfoldable pub command_at : List ℕ → List ℕ → Result (Option RawCommand × List ℕ) WordFault
command_at text s =
    let r = after_blanks s in
    if length r == 0 then Ok (None, r)
    else words_at (length text) r >>= λ p. Ok (Some (record { line = line_of text r; words = p.0 }), p.1)

-- its line alone
abbrev pub line_at : List ℕ → List ℕ → Result (Option ℕ × List ℕ) WordFault
line_at text s = command_at text s >>= λ c. Ok (option_map (λ (r : RawCommand). r.line) c.0, c.1)

-- if a command is read, it has this one's line and begins with this one's words
abbrev pub IsFront : RawCommand → Result (Option RawCommand × List ℕ) WordFault → Type 0
IsFront front read = (command : RawCommand) (left : List ℕ) → read ≡ Ok (Some command, left) → (command.line ≡ front.line) × (take 1 command.words ≡ front.words)
