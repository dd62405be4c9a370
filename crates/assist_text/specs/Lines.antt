-- What the lines of a text say: words, by the number of their line.
use Rattle.std.specs.Prelude.{ℕ, Bool, true, false, ◌==◌, ◌||◌, not, if◌then◌else◌, List, [], ◌∷◌, length, filter, slice_index}
use Rattle.std.specs.List.{slice_split}
use Rattle.sdcv_base.specs.Seqs.{each_at}

-- the lines of a text: what stands between its newlines
abbrev pub lines_of : List ℕ → List (List ℕ)
lines_of text = slice_split (λ b. b == 10) text

-- a space, a tab or a carriage return
abbrev pub is_blank : ℕ → Bool
is_blank b = b == 32 || (b == 9 || b == 13)

-- the words of a line: what stands between its blanks
abbrev pub is_word : List ℕ → Bool
is_word part = not (length part == 0)

abbrev pub words_of : List ℕ → List (List ℕ)
words_of line = filter is_word (slice_split is_blank line)

-- a line whose first byte is `#` is a comment and says nothing; any other line says its words
unfoldable pub words_said : List ℕ → List (List ℕ)
words_said line = if slice_index line 0 == 35 then [] else words_of line

-- the number of a line, and the words that it says
abbrev pub Said : Type 0
Said = ℕ × List (List ℕ)

-- what these words of a line say; no words say nothing
abbrev pub said_by : ℕ → List (List ℕ) → List Said
said_by line [] = []
said_by line (word ∷ words) = (line, word ∷ words) ∷ []

abbrev pub said_at : ℕ → List ℕ → List Said
said_at number line = said_by number (words_said line)

-- the lines of a text that say something, in their order, counted from 1
abbrev pub said_in : List ℕ → List Said
said_in text = each_at said_at 1 (lines_of text)

-- the digit of a value
abbrev pub digit : Bool → ℕ
digit true = 49
digit false = 48
