-- The words of a line, and numbers among them.
use Rattle.std.specs.Prelude.{ℕ, ◌-◌, ◌^◌, ◌==◌, ◌&&◌, Bool, true, false, nat_le, List, [], ◌∷◌, length, map, take, drop, flat_map, slice_index_or, Option, Some, None, if◌then◌else◌}
use Rattle.std.specs.List.{list_all, slice_split}
use Rattle.std.specs.Str.{all_ascii_digits, bytes_eq}
use Rattle.std.specs.Str.Parse.{digits_value}
use Rattle.std.specs.Borrow.{Bor}

-- the bytes of texts
abbrev pub texts : List (Bor (List ℕ)) → List (List ℕ)
texts = map (λ t. t.now)

-- a text cut at newlines: with a newline at its end the last of these is empty
abbrev pub pieces : List ℕ → List (List ℕ)
pieces text = slice_split (λ b. b == 10) text

-- each byte can be shown, from 32 to 126
abbrev pub is_plain : List ℕ → Bool
is_plain line = list_all (λ b. nat_le 32 b && nat_le b 126) line

-- a line cut at each space
abbrev pub cut : List ℕ → List (List ℕ)
cut line = slice_split (λ b. b == 32) line

-- the words of a line, which is cut at each space; a line with another byte has none
abbrev pub words : List ℕ → List (List ℕ)
words line = if is_plain line then cut line else []

-- the word at a place, from 0; past the end it is empty
abbrev pub word_at : List (List ℕ) → ℕ → List ℕ
word_at ws place = slice_index_or ws place []

-- the word at a place is this one
abbrev pub is_word : List (List ℕ) → ℕ → List ℕ → Bool
is_word ws place w = bytes_eq (word_at ws place) w

-- the words from a place on, up to another place
abbrev pub part : List (List ℕ) → ℕ → ℕ → List (List ℕ)
part ws from upto = take (upto - from) (drop from ws)

-- words with a space between each two
abbrev pub joined : List (List ℕ) → List ℕ
joined ws = drop 1 (flat_map (λ w. 32 ∷ w) ws)

-- the number that 1 to 20 decimal digits stand for, below 2^64
unfoldable pub number_in : List ℕ → Option ℕ
number_in w =
    if nat_le 1 (length w) && (nat_le (length w) 20 && (all_ascii_digits w && nat_le (digits_value 10 w) (2 ^ 64 - 1))) then Some (digits_value 10 w) else None

-- the value, where it fits
abbrev pub when : {A : Type 0} → Bool → A → Option A
when false a = None
when true a = Some a
