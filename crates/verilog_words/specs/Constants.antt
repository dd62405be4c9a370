-- Sized constants: a size, `'`, a base and digits, one token (IEEE 1364-2005, clause 3.5.1).
use Rattle.std.specs.Prelude.{ℕ, zero, suc, Bool, false, not, ◌==◌, ◌||◌, ◌^◌, ◌/◌, ◌%◌, nat_le, nat_lt, if◌then◌else◌, List, [], ◌∷◌, take, drop}
use Rattle.std.specs.Prelude.{Option, None, Some, Ok}
use Rattle.std.specs.Char.{is_ascii_digit, is_digit, to_ascii_lowercase}
use Rattle.std.specs.List.{list_any, prefix_len}
use Rattle.texts.specs.Fronts.{first}
use Rattle.texts.specs.Rules.{◌>>=◌}
use Rattle.verilog_words.specs.declared.constants.Base.{Base}
use Rattle.verilog_words.specs.declared.constants.Base.TheVariants as base
use Rattle.verilog_words.specs.Codes.{apostrophe, underscore}
use Rattle.verilog_words.specs.Blanks.{after_blanks}
use Rattle.verilog_words.specs.Marks.{is_next}
use Rattle.verilog_words.specs.Numbers.{run_value}
use Rattle.verilog_words.specs.Reads.{Rule, refused}

-- a size of 1 to 64
unfoldable pub size_at : Rule ℕ
size_at total s =
    let n = prefix_len is_ascii_digit s in
    let value = run_value 10 (take n s) in
    if value == 0 || nat_lt 64 value then refused total s else Ok (value, drop n s)

-- the base of a letter `b`, `o`, `d` or `h`, in either case
unfoldable pub base_of : ℕ → Option Base
base_of b =
    let c = to_ascii_lowercase b in
    if c == 98 then Some base.Binary
    else if c == 111 then Some base.Octal
    else if c == 100 then Some base.Decimal
    else if c == 104 then Some base.Hex
    else None

-- `'` and the letter of a base
unfoldable pub base_at : Rule Base
base_at total s = if not (is_next apostrophe s) then refused total s else elim (base_of (first (drop 1 s))) [
  | Some b ↦ Ok (b, drop 1 (drop 1 s))
  | None ↦ refused total (drop 1 s)
]

abbrev pub radix : Base → ℕ
radix base.Binary = 2
radix base.Octal = 8
radix base.Decimal = 10
radix base.Hex = 16

abbrev pub is_digit_of : Base → ℕ → Bool
is_digit_of b c = is_digit c (radix b)

abbrev pub is_digit_or_underscore : Base → ℕ → Bool
is_digit_or_underscore b c = is_digit_of b c || c == underscore

-- so many bits of a number, the most significant first
unfoldable pub bits_of : ℕ → ℕ → List Bool
bits_of zero value = []
bits_of (suc n) value = ((value / 2 ^ n) % 2 == 1) ∷ bits_of n value

-- the digits of this base, one at least, with any number of `_` among them, of a value that has so many bits
unfoldable pub digits_at : ℕ → Base → Rule (List Bool)
digits_at size b total s =
    let n = prefix_len (is_digit_or_underscore b) s in
    let value = run_value (radix b) (take n s) in
    if not (list_any (is_digit_of b) (take n s)) || nat_le (2 ^ size) value then refused total s
    else Ok (bits_of size value, after_blanks false (drop n s))

-- a constant, and what is passed over after it
unfoldable pub constant_at : Rule (List Bool)
constant_at total s = size_at total s >>= λ n. base_at total n.1 >>= λ b. digits_at n.0 b.0 total b.1
