-- Numbers that stand in a line.
use Rattle.std.specs.Prelude.{ℕ, ◌-◌, ◌^◌, ◌&&◌, nat_le, List, length, Option, Some, None, if◌then◌else◌}
use Rattle.std.specs.Fmt.{decimal}
use Rattle.std.specs.Str.{all_ascii_digits}
use Rattle.std.specs.Str.Parse.{digits_value}
use Rattle.sdcv_base.specs.Shown.{shown}

-- the number that 1 to 20 decimal digits stand for, below 2^64
unfoldable pub number_in : List ℕ → Option ℕ
number_in w =
    if nat_le 1 (length w) && (nat_le (length w) 20 && (all_ascii_digits w && nat_le (digits_value 10 w) (2 ^ 64 - 1))) then Some (digits_value 10 w) else None

abbrev pub less_text : List ℕ → Option ℕ → List ℕ
less_text word None = shown word
less_text word (Some n) = decimal (n - 1)

-- the number that is one less, or the word itself where it is none
abbrev pub less_one : List ℕ → List ℕ
less_one word = less_text word (number_in word)
