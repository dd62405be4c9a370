-- A line by its number and its two names, and the words that it has.
use Rattle.std.proofs.Common.{ℕ, ◌-◌, Bool, true, false, List, [], ◌∷◌, ◌++◌, length, codes}
use Rattle.std.specs.List.{slice_index_or}
use Rattle.sdc_words.specs.declared.words.Piece.TheVariants.{Bytes}
use Rattle.sdc_words.specs.declared.words.RawCommand.{RawCommand}
use Rattle.sdc_words.specs.declared.words.Word.{Word}
use Rattle.sdc_words.specs.declared.words.Word.TheVariants.{Text, Opens, Closes}
use Rattle.sdc_words.specs.Lines.{line_of}

-- a word of these bytes at this place
abbrev pub word_by : ℕ → List ℕ → Word
word_by place w = Text place (Bytes w ∷ [])

-- the option of a line
abbrev pub option_text : Bool → List ℕ
option_text false = []
option_text true = codes " -hold"

-- what stands after a line's number, with what follows its newline
abbrev pub after_number : Bool → List ℕ → List ℕ → List ℕ → List ℕ
after_number hold start end rest =
    option_text hold ++ (codes " -from [get_cells {" ++ (start ++ (codes "}] -to [get_cells {" ++ (end ++ (codes "}]" ++ 10 ∷ rest)))))

-- a whole line, and what follows it
abbrev pub whole_line : List ℕ → Bool → List ℕ → List ℕ → List ℕ → List ℕ
whole_line number hold start end rest = codes "set_multicycle_path " ++ (number ++ after_number hold start end rest)

-- what is left of the text before each word that is a text or a `[`, and before the option at the end of the list
abbrev lefts : List ℕ → Bool → List ℕ → List ℕ → List ℕ → List (List ℕ)
lefts number hold start end rest =
    let last = codes "get_cells {" ++ (end ++ 125 ∷ 93 ∷ 10 ∷ rest) in
    let to = codes "-to [" ++ last in
    let middle = codes "get_cells {" ++ (start ++ 125 ∷ 93 ∷ 32 ∷ to) in
    let from = codes "-from [" ++ middle in
    whole_line number hold start end rest
    ∷ (number ++ after_number hold start end rest)
    ∷ from ∷ (91 ∷ middle) ∷ middle ∷ (123 ∷ (start ++ 125 ∷ 93 ∷ 32 ∷ to))
    ∷ to ∷ (91 ∷ last) ∷ last ∷ (123 ∷ (end ++ 125 ∷ 93 ∷ 10 ∷ rest))
    ∷ (codes "-hold " ++ from) ∷ []

-- where these words stand in a text of this length
abbrev pub places : ℕ → List ℕ → Bool → List ℕ → List ℕ → List ℕ → ℕ → ℕ
places total number hold start end rest i = total - length (slice_index_or (lefts number hold start end rest) i [])

-- the option's word
abbrev pub option_words : (ℕ → ℕ) → Bool → List Word
option_words at false = []
option_words at true = word_by (at 10) (codes "-hold") ∷ []

-- the words of the two lists
abbrev pub list_words : (ℕ → ℕ) → List ℕ → List ℕ → List Word
list_words at start end =
    word_by (at 2) (codes "-from") ∷ Opens (at 3) ∷ word_by (at 4) (codes "get_cells") ∷ word_by (at 5) start ∷ Closes
    ∷ word_by (at 6) (codes "-to") ∷ Opens (at 7) ∷ word_by (at 8) (codes "get_cells") ∷ word_by (at 9) end ∷ Closes ∷ []

-- the words of a line after the command's name, which stand at these places
abbrev pub words_after_name : (ℕ → ℕ) → List ℕ → Bool → List ℕ → List ℕ → List Word
words_after_name at number hold start end = word_by (at 1) number ∷ (option_words at hold ++ list_words at start end)

-- the command's name
abbrev pub name_at : (ℕ → ℕ) → Word
name_at at = word_by (at 0) (codes "set_multicycle_path")

-- all words of a line
abbrev pub line_words : (ℕ → ℕ) → List ℕ → Bool → List ℕ → List ℕ → List Word
line_words at number hold start end = name_at at ∷ words_after_name at number hold start end

-- the command of a line in a text of which this line and what follows it are left
abbrev pub command_by : List ℕ → List ℕ → Bool → List ℕ → List ℕ → List ℕ → RawCommand
command_by text number hold start end rest = record {
  line = line_of text (whole_line number hold start end rest);
  words = line_words (places (length text) number hold start end rest) number hold start end;
}
