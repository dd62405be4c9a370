-- Numbers among the words.
use Rattle.std.specs.Prelude.{ℕ, Bool, ◌&&◌, nat_le, List, length, Option, None, Some, if◌then◌else◌}
use Rattle.std.specs.Str.{all_ascii_digits}
use Rattle.std.specs.Str.Parse.{digits_value}

-- 1 to 20 decimal digits
abbrev pub are_digits : List ℕ → Bool
are_digits text = nat_le 1 (length text) && (nat_le (length text) 20 && all_ascii_digits text)

-- the number of these digits, if it lies in the range
unfoldable pub number_in : ℕ → ℕ → List ℕ → Option ℕ
number_in least most text =
    let value = digits_value 10 text in
    if are_digits text && nat_le value most then (if nat_le least value then Some value else None) else None

-- the same of a text that may be left out
abbrev pub number_or : ℕ → ℕ → ℕ → Option (List ℕ) → Option ℕ
number_or default least most None = Some default
number_or default least most (Some text) = number_in least most text
