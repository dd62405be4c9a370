-- Where a byte stands in a text.
use Rattle.std.specs.Prelude.{◌≡◌, ◌⊎◌, ℕ, ◌+◌, ◌==◌, not, if◌then◌else◌, List, [], ◌∷◌, ◌++◌, length, take, drop, fold, count_by}
use Rattle.std.specs.List.{prefix_len}
use Rattle.refusal_words.specs.declared.places.Place.{Place}

-- how many lines end in a text
abbrev pub ends : List ℕ → ℕ
ends = count_by (λ b. b == 10)

-- these are whole lines, each with its newline, or nothing
abbrev pub AreLines : List ℕ → Type 0
AreLines text = (text ≡ []) ⊎ ((front : List ℕ) × (text ≡ front ++ 10 ∷ []))

-- so many bytes of a text are whole lines and then a front of the line of the place: the lines before it and the bytes of its
-- line before it are counted from 1
pub record IsPlace (text : List ℕ) (offset : ℕ) (place : Place) : Type 0 where
  pub lines : List ℕ
  pub here : List ℕ
  pub passed : take offset text ≡ lines ++ here
  pub whole : AreLines lines
  pub one : ends here ≡ 0
  pub line : place.line ≡ ends lines + 1
  pub column : place.column ≡ length here + 1

-- the place after one more byte
abbrev pub next_place : Place → ℕ → Place
next_place place b =
    if b == 10 then record { line = place.line + 1; column = 1 } else record { line = place.line; column = place.column + 1 }

-- the place right after a text
abbrev pub place_after : List ℕ → Place
place_after text = fold next_place (record { line = 1; column = 1 }) text

abbrev pub place_of : List ℕ → ℕ → Place
place_of text offset = place_after (take offset text)

-- what is left of a line
abbrev pub line_front : List ℕ → List ℕ
line_front rest = take (prefix_len (λ b. not (b == 10)) rest) rest

-- the bytes of a text from an offset up to the line's end
abbrev pub line_rest : List ℕ → ℕ → List ℕ
line_rest text offset = line_front (drop offset text)
