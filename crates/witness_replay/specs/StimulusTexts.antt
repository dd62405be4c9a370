-- The text of a stimulus, a block of lines in a report.
use Rattle.std.specs.Prelude.{ℕ, Bool, if◌then◌else◌, List, [], ◌∷◌, ◌++◌, map, flat_map, length, codes}
use Rattle.std.specs.Fmt.{decimal}
use Rattle.net_model.specs.declared.cycles.Stimulus.{Stimulus}

-- a bit as the digit 0 or 1
abbrev pub digit_of : Bool → ℕ
digit_of b = if b then 49 else 48

-- bits as digits; no bits are written `-`
abbrev pub digits_of : List Bool → List ℕ
digits_of [] = codes "-"
digits_of (b ∷ bits) = map digit_of (b ∷ bits)

-- a line's bytes, and the newline after them
abbrev pub line_of : List ℕ → List ℕ
line_of bytes = bytes ++ 10 ∷ []

-- what the first line of a block of this number begins with
abbrev pub title_of : ℕ → List ℕ
title_of number = codes "stimulus " ++ decimal number

-- the first line of a block: its number, and how many cycles it has
abbrev pub head_of : ℕ → ℕ → List ℕ
head_of number count = title_of number ++ codes " cycles " ++ decimal count

-- the line of one cycle's input bits
abbrev pub input_line : List Bool → List ℕ
input_line ins = codes "input " ++ digits_of ins

-- the lines of a block: its first line, the register bits of the first cycle in design order, for each cycle the input
-- bits in port order, and the line `end`
abbrev pub block_lines : ℕ → Stimulus → List (List ℕ)
block_lines number s =
    head_of number (length s.inputs) ∷ (codes "state " ++ digits_of s.state) ∷ (map input_line s.inputs ++ codes "end" ∷ [])

-- the text of a block
abbrev pub block_text : ℕ → Stimulus → List ℕ
block_text number s = flat_map line_of (block_lines number s)
