-- Decimal numbers. Each takes what is passed over after it.
use Rattle.std.specs.Prelude.{ℕ, Bool, false, ◌==◌, ◌||◌, ◌^◌, nat_le, if◌then◌else◌, List, take, drop, Ok}
use Rattle.std.specs.Char.{is_ascii_digit, is_digit}
use Rattle.std.specs.List.{filter, prefix_len}
use Rattle.std.specs.Str.Parse.{digits_value}
use Rattle.texts.specs.Fronts.{first}
use Rattle.verilog_words.specs.Blanks.{after_blanks}
use Rattle.verilog_words.specs.Reads.{Rule, refused}

-- the number that the digits of a run write, where a byte that is no digit, as `_`, counts for nothing
unfoldable pub run_value : ℕ → List ℕ → ℕ
run_value radix run = digits_value radix (filter (λ b. is_digit b radix) run)

-- a number or a constant comes next
abbrev pub begins_number : List ℕ → Bool
begins_number s = is_ascii_digit (first s)

-- the digits at the front
abbrev pub digits : List ℕ → List ℕ
digits s = take (prefix_len is_ascii_digit s) s

-- a number of at most 65,535
unfoldable pub number_at : Rule ℕ
number_at total s =
    let n = prefix_len is_ascii_digit s in
    let value = run_value 10 (take n s) in
    if n == 0 || nat_le (2 ^ 16) value then refused total s else Ok (value, after_blanks false (drop n s))
