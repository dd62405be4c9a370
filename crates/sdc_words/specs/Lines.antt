-- Lines of a text, and texts with carriage returns before their newlines.
use Rattle.std.specs.Prelude.{ℕ, ◌+◌, ◌-◌, Bool, ◌==◌, if◌then◌else◌, List, [], ◌∷◌, length, take, count_by}
use Rattle.texts.specs.Fronts.{has_two}
use Rattle.sdc_words.specs.Marks.{newline, carriage_return}

-- how many newlines these bytes hold
abbrev pub newlines : List ℕ → ℕ
newlines s = count_by (λ b. b == newline) s

-- the line of the byte where this is left of the text: 1, and the newlines before it
abbrev pub line_of : List ℕ → List ℕ → ℕ
line_of text s = 1 + newlines (take (length text - length s) text)

-- a carriage return stands here before a newline
abbrev pub is_passed : List ℕ → Bool
is_passed s = has_two carriage_return newline s

-- the text without each carriage return that stands before a newline
unfoldable pub cleaned : List ℕ → List ℕ
cleaned [] = []
cleaned (b ∷ s) = if is_passed (b ∷ s) then cleaned s else b ∷ cleaned s

-- where the byte stood that is at place k after the cleaning; i bytes were passed
unfoldable pub original_from : ℕ → ℕ → List ℕ → ℕ
original_from i k [] = i
original_from i k (b ∷ s) =
    if is_passed (b ∷ s) then original_from (i + 1) k s
    else if k == 0 then i
    else original_from (i + 1) (k - 1) s

-- where the byte stands in a text that is at a place of the cleaned one
abbrev pub original : List ℕ → ℕ → ℕ
original s k = original_from 0 k s
