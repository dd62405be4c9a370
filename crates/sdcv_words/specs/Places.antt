-- The reading of words by their places.
use Rattle.std.specs.Prelude.{Bool, true, false, not, ◌==◌, ◌||◌, List, [], ◌∷◌, ◌++◌, length, drop, find, codes, Option, None, Some, is_some, if◌then◌else◌}
use Rattle.std.specs.List.{list_all}
use Rattle.std.specs.Str.{bytes_eq}
use Rattle.texts.specs.Lookups.{in_table}
use Rattle.texts.specs.Reads.{◌>>=◌}
use Rattle.clap_words.specs.declared.commands.Form.{Form}
use Rattle.clap_words.specs.declared.commands.Form.TheVariants.{Flag, Valued, Needed}
use Rattle.clap_words.specs.Commands.{CommandRow, OptionRow, Text, command_rows}
use Rattle.clap_words.specs.Readings.{Given, Reading}
use Rattle.sdcv_words.specs.declared.places.Due.{Due}
use Rattle.sdcv_words.specs.declared.places.Due.TheVariants as due

-- a word can stand for a value: it is not empty and does not begin with `-`
abbrev pub is_value : Text → Bool
is_value [] = false
is_value (first ∷ rest) = not (first == 45)

-- what is given, with a value more
abbrev pub with_value : List Given → Text → Text → Option (List Given)
with_value given id word = if is_value word then Some (given ++ (id, word) ∷ []) else None

-- a word at each of these positions, one after another
unfoldable pub placed : List Given → List Text → List Text → Option (List Given)
placed given [] words = Some given
placed given (id ∷ ids) [] = None
placed given (id ∷ ids) (word ∷ words) = with_value given id word >>= λ more. placed more ids words

-- the option that the word begins, if it is one of these and is not given yet
abbrev pub new_option : List OptionRow → List Given → Text → Option OptionRow
new_option rows given word =
    find (λ row. bytes_eq word (45 ∷ 45 ∷ row.id)) rows >>= λ row.
    if is_some (in_table given row.id) then None else Some row

-- what comes next after the word of an option: its value, if it has one, and what is given
abbrev pub begun : Text → Form → List Given → Option Text × List Given
begun id Flag given = (None, given ++ (id, codes "true") ∷ [])
begun id Valued given = (Some id, given)
begun id Needed given = (Some id, given)

-- what comes next after a word among the options, where the value of an option may be due
abbrev pub step : List OptionRow → Option Text → List Given → Text → Option (Option Text × List Given)
step rows (Some id) given word = with_value given id word >>= λ more. Some (None, more)
step rows None given word = new_option rows given word >>= λ row. Some (begun row.id row.form given)

-- options one after another, each once and with its value in the next word
unfoldable pub optioned : List OptionRow → Option Text → List Given → List Text → Option (List Given)
optioned rows None given [] = Some given
optioned rows (Some id) given [] = None
optioned rows waiting given (word ∷ words) = step rows waiting given word >>= λ next. optioned rows next.0 next.1 words

abbrev pub is_needed : Form → Bool
is_needed Needed = true
is_needed _ = false

-- each option that always stands is given
abbrev pub has_needed : List OptionRow → List Given → Bool
has_needed rows given = list_all (λ row. not (is_needed row.form) || is_some (in_table given row.id)) rows

abbrev pub row_of : Text → Option CommandRow
row_of name = find (λ row. bytes_eq name row.name) command_rows

-- the first word is the command, its positions come next, and the options follow them
abbrev pub by_place : List Text → Option Reading
by_place [] = None
by_place (name ∷ words) =
    row_of name >>= λ row.
    placed [] row.positions words >>= λ given.
    optioned row.options None given (drop (length row.positions) words) >>= λ all.
    if has_needed row.options all then Some (record { name = row.name; given = all }) else None

-- the option whose value is due
abbrev pub seen_due : Due → Option Text
seen_due due.Option = None
seen_due (due.Value id) = Some id.now
