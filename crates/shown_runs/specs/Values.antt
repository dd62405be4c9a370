-- How values of several bits are shown. Their digits are those of their bits, `0`, `1` or `x`, the first bit first.
use Rattle.std.specs.Prelude.{ℕ, ◌+◌, ◌*◌, ◌%◌, ◌==◌, nat_lt, Bool, if◌then◌else◌, List, [], ◌∷◌, ◌++◌, length, slice_index_or, codes}
use Rattle.std.specs.List.{list_any}

-- the number of the last four bits, this digit having come
abbrev pub next_four : ℕ → ℕ → ℕ
next_four four digit = four % 8 * 2 + (if digit == 49 then 1 else 0)

abbrev pub hex_digit : ℕ → ℕ
hex_digit four = slice_index_or (codes "0123456789abcdef") four 63

-- four bits are a hexadecimal digit where the digits to come, this many, are so many times four
abbrev pub four_text : ℕ → ℕ → List ℕ
four_text left four = if left % 4 == 0 then hex_digit four ∷ [] else []

-- the hexadecimal digits of the bits to come, where the last four before them have this number
unfoldable pub hexed : ℕ → List ℕ → List ℕ
hexed four [] = []
hexed four (digit ∷ rest) = four_text (length rest) (next_four four digit) ++ hexed (next_four four digit) rest

abbrev pub has_mark : List ℕ → Bool
has_mark = list_any (λ digit. digit == 120)

-- many bits by hexadecimal digits, or each where one is an `x`, which no such digit could tell
abbrev pub wide_text : List ℕ → List ℕ
wide_text digits = if has_mark digits then codes "0b" ++ digits else codes "0x" ++ hexed 0 digits

-- more than 4 bits so, and fewer as they are
unfoldable pub value_text : List ℕ → List ℕ
value_text digits = if nat_lt 4 (length digits) then wide_text digits else digits
