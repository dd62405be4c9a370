-- Numbers of commands.
use Rattle.std.specs.Prelude.{ℕ, Bool, not, ◌==◌, ◌&&◌, ◌||◌, nat_le, if◌then◌else◌, List, length, drop, Option, Some, None}
use Rattle.std.specs.List.{list_all}
use Rattle.std.specs.Char.{is_ascii_digit}
use Rattle.std.specs.Str.Parse.{digits_value}
use Rattle.texts.specs.Fronts.{first}

-- decimal digits, one or more, with any zeros in front
abbrev pub is_digits : List ℕ → Bool
is_digits text = not (length text == 0) && list_all is_ascii_digit text

-- digits, and maybe one `-` before them
abbrev pub is_whole : List ℕ → Bool
is_whole text = is_digits text || (first text == 45 && is_digits (drop 1 text))

-- digits, and maybe one sign before them
abbrev pub is_integer : List ℕ → Bool
is_integer text = is_whole text || (first text == 43 && is_digits (drop 1 text))

-- the multiplier that a text is: a number from 1 to 16
unfoldable pub multiplier : List ℕ → Option ℕ
multiplier text =
    let n = digits_value 10 text in
    if is_digits text && (nat_le 1 n && nat_le n 16) then Some n else None
