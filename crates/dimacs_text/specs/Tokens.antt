-- What the lines of a DIMACS text say.
use Rattle.std.specs.Prelude.{ℕ, ◌+◌, ◌-◌, ◌^◌, ◌<◌, ◌==◌, ◌&&◌, ◌||◌, Bool, true, false, not, if◌then◌else◌, nat_le, List, [], ◌∷◌, ◌++◌, map, filter, length, drop, codes}
use Rattle.std.specs.Prelude.{Option, None, Some, slice_index, get_or}
use Rattle.std.specs.List.{slice_split}
use Rattle.std.specs.Str.{bytes_eq, all_ascii_digits}
use Rattle.std.specs.Str.Parse.{digits_value}
use Rattle.dimacs_text.specs.declared.tokens.Token.{Token}
use Rattle.dimacs_text.specs.declared.tokens.Token.TheVariants.{Header, NoHeader, Number, NoNumber}

-- 1 to 20 decimal digits
abbrev pub are_digits : List ℕ → Bool
are_digits text = nat_le 1 (length text) && (nat_le (length text) 20 && all_ascii_digits text)

-- their number, where it is at most a limit
unfoldable pub decimal_of : ℕ → List ℕ → Option ℕ
decimal_of limit text = if are_digits text && nat_le (digits_value 10 text) limit then Some (digits_value 10 text) else None

-- the lines of a text
abbrev pub lines_of : List ℕ → List (List ℕ)
lines_of text = slice_split (λ b. b == 10) text

-- a space, a tab or a carriage return
abbrev pub is_blank : ℕ → Bool
is_blank b = b == 32 || (b == 9 || b == 13)

-- what stands between the blanks of a line
abbrev pub is_word : List ℕ → Bool
is_word part = not (length part == 0)

abbrev pub words_of : List ℕ → List (List ℕ)
words_of line = filter is_word (slice_split is_blank line)

-- the header of a number of variables and a number of clauses
abbrev pub header_if : Option ℕ → Option ℕ → Token
header_if (Some vars) (Some told) = Header vars told
header_if (Some vars) None = NoHeader
header_if None told = NoHeader

abbrev pub counts : List ℕ → List ℕ → Token
counts vars told = header_if (decimal_of (2 ^ 31 - 1) vars) (decimal_of (2 ^ 64 - 1) told)

-- the words `p cnf VARS CLAUSES`
abbrev pub is_header : List (List ℕ) → Bool
is_header words = length words == 4 && (bytes_eq (get_or words 0 []) (codes "p") && bytes_eq (get_or words 1 []) (codes "cnf"))

unfoldable pub header : List (List ℕ) → Token
header words = if is_header words then counts (get_or words 2 []) (get_or words 3 []) else NoHeader

-- a number
abbrev pub number_if : Bool → Option ℕ → Token
number_if positive (Some var) = Number positive var
number_if positive None = NoNumber

abbrev pub signed : Bool → List ℕ → Token
signed positive digits = number_if positive (decimal_of (2 ^ 64 - 1) digits)

-- digits, with or without a `-` before them
unfoldable pub number : List ℕ → Token
number word = if slice_index word 0 == 45 then signed false (drop 1 word) else signed true word

-- what a line says: nothing where it begins with `c`, a header where it begins with `p`, and else numbers
unfoldable pub tokens_in : List ℕ → List Token
tokens_in line =
    if slice_index line 0 == 99 then [] else (if slice_index line 0 == 112 then header (words_of line) ∷ [] else map number (words_of line))

-- a header tells fewer than 2^31 variables
abbrev pub IsFew : Token → Type 0
IsFew (Header vars told) = vars < 2 ^ 31
IsFew token = Unit {0}

-- a token and the number of its line
abbrev pub Placed : Type 0
Placed = ℕ × Token

abbrev pub token_of : Placed → Token
token_of p = p.1

-- what a line of that number says
abbrev pub placed_in : ℕ → List ℕ → List Placed
placed_in number line = map (λ (t : Token). (number, t)) (tokens_in line)

-- what these words of a line of that number say, where they are numbers
abbrev pub placed_words : ℕ → List (List ℕ) → List Placed
placed_words at words = map (λ (word : List ℕ). (at, number word)) words

-- what lines say of which the first has that number
unfoldable pub placed_from : ℕ → List (List ℕ) → List Placed
placed_from number [] = []
placed_from number (line ∷ lines) = placed_in number line ++ placed_from (number + 1) lines

-- what a text says
abbrev pub tokens : List ℕ → List Placed
tokens text = placed_from 1 (lines_of text)
