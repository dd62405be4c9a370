-- The two lines that tell a refusal.
use Rattle.std.specs.Prelude.{ℕ, ◌==◌, nat_eq, ◌&&◌, Bool, false, if◌then◌else◌, List, [], ◌++◌, length, take, codes, Option, Some, None}
use Rattle.std.specs.Fmt.{decimal}
use Rattle.std.specs.List.{starts_with}
use Rattle.std.specs.Option.{option_map, option_or, unwrap_or}
use Rattle.std.specs.Str.{bytes_eq}
use Rattle.sdcv_base.specs.Shown.{shown}
use Rattle.refusal_words.specs.declared.places.Place.{Place}
use Rattle.refusal_words.specs.declared.rows.Spot.{Spot}
use Rattle.refusal_words.specs.declared.rows.Spot.TheVariants as spot
use Rattle.refusal_words.specs.declared.tellings.Found.{Found as TheFound}
use Rattle.refusal_words.specs.Causes.{filled}
use Rattle.refusal_words.specs.Designs.{design_rows, top_rows}
use Rattle.refusal_words.specs.Fields.{after_head, first_word, part_word}
use Rattle.refusal_words.specs.Further.{further_rows}
use Rattle.refusal_words.specs.Numbers.{number_in}
use Rattle.refusal_words.specs.Places.{line_rest, place_of}
use Rattle.refusal_words.specs.Rows.{Row, row_in, seen_row}
use Rattle.refusal_words.specs.Sections.{FileNames, Section, file_of, section_in, section_rows, seen_section}
use Rattle.refusal_words.specs.Sources.{text_rows}

-- a row of words, and the part that refuses
pub record Found : Type 0 where
  pub row : Row
  pub section : Section

abbrev pub seen_found : TheFound → Found
seen_found f = record { row = seen_row f.row; section = seen_section f.section }

-- the line refuses the word that names the top module
unfoldable pub is_of_top : Option (List ℕ) → List ℕ → Bool
is_of_top None line = false
is_of_top (Some top) line =
    starts_with nat_eq line (codes "refused link 14 BadSetting") && bytes_eq (after_head line (codes "refused link 14 BadSetting")) (shown top)

-- the row of a line, but for those of the top module
unfoldable pub row_among : List ℕ → Option Row
row_among line = option_or (row_in text_rows line) (option_or (row_in design_rows line) (row_in further_rows line))

-- the row of a line
unfoldable pub row_of : Option (List ℕ) → List ℕ → Option Row
row_of top line = if is_of_top top line then row_in top_rows line else row_among line

abbrev pub found_with : Option Row → Option Section → Option Found
found_with None section = None
found_with (Some row) section = option_map (λ (s : Section). record { row = row; section = s }) section

-- what is found for a line
unfoldable pub found_of : FileNames → List ℕ → Option Found
found_of names line = found_with (row_of names.top line) (section_in section_rows (part_word line))

-- the offset that a word gives
abbrev pub offset_in : List ℕ → ℕ
offset_in word = unwrap_or (number_in word) 0

abbrev pub point_text : Place → List ℕ
point_text place = decimal place.line ++ (codes ":" ++ decimal place.column)

-- where a line says that it is, in words: with an offset the line and the column, where the text is there
unfoldable pub place_text : Spot → List ℕ → List ℕ → Option (List ℕ) → List ℕ
place_text spot.Whole file word text = file
place_text spot.Line file word text = file ++ (codes ":" ++ shown word)
place_text spot.Offset file word None = file ++ (codes ": byte " ++ shown word)
place_text spot.Offset file word (Some text) = file ++ (codes ":" ++ point_text (place_of text (offset_in word)))

-- what is left of a line, as it is quoted: at most 40 bytes
unfoldable pub quoted : List ℕ → List ℕ
quoted rest = if length rest == 0 then codes ", at the end" else codes ": \"" ++ (shown (take 40 rest) ++ codes "\"")

-- what stands at an offset of the text, where the line has one
unfoldable pub quote_text : Spot → List ℕ → Option (List ℕ) → List ℕ
quote_text spot.Whole word text = []
quote_text spot.Line word text = []
quote_text spot.Offset word None = []
quote_text spot.Offset word (Some text) = quoted (line_rest text (offset_in word))

-- where and why
unfoldable pub cause_text : FileNames → List ℕ → Option (List ℕ) → Found → List ℕ
cause_text names line text found =
    let said = after_head line found.row.head in
    let word = first_word said in
    place_text found.row.spot (file_of names found.section.source) word text
    ++ (codes ": " ++ (filled said names.cells found.row.cause ++ quote_text found.row.spot word text))

-- what to do, and the section of the page that has more
unfoldable pub remedy_text : Found → List ℕ
remedy_text found = found.row.remedy ++ (codes " (docs/REFUSALS.md#" ++ (found.section.anchor ++ codes ")"))

-- the two lines, each with the program's name in front
unfoldable pub told_text : List ℕ → FileNames → List ℕ → Option (List ℕ) → Found → List ℕ
told_text program names line text found =
    program ++ (codes ": " ++ (cause_text names line text found ++ (codes "\n" ++ (program ++ (codes ": " ++ (remedy_text found ++ codes "\n"))))))

-- the name of a file at an offset of which the cause is
abbrev pub file_at : FileNames → Spot → Section → Option (List ℕ)
file_at names spot.Whole section = None
file_at names spot.Line section = None
file_at names spot.Offset section = Some (file_of names section.source)

abbrev pub file_in : FileNames → Option Found → Option (List ℕ)
file_in names None = None
file_in names (Some found) = file_at names found.row.spot found.section

-- the name of the file at an offset of which the line says that the cause is
abbrev pub file_to_read : FileNames → List ℕ → Option (List ℕ)
file_to_read names line = file_in names (found_of names line)

-- the two lines that tell a refusal, and nothing for a line that is none
abbrev pub told_refusal : List ℕ → FileNames → List ℕ → Option (List ℕ) → Option (List ℕ)
told_refusal program names line text = option_map (told_text program names line text) (found_of names line)
