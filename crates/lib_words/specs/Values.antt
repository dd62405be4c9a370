-- The values of simple attributes: quoted texts, or runs of bytes and comments.
use Rattle.std.specs.Prelude.{ℕ, zero, suc, ◌+◌, ◌-◌, Bool, true, false, not, ◌==◌, ◌||◌, if◌then◌else◌, List, [], ◌∷◌, length, take, drop, Ok}
use Rattle.std.specs.Char.{is_ascii_whitespace}
use Rattle.std.specs.List.{suffix_len}
use Rattle.texts.specs.Fronts.{first}
use Rattle.texts.specs.Rules.{◌>>=◌, offset_of}
use Rattle.lib_words.specs.declared.groups.Value.{Value}
use Rattle.lib_words.specs.Marks.{newline, quote, right_brace, semicolon, space}
use Rattle.lib_words.specs.Blanks.{is_line_break, opens_comment, comment_len, after_blanks}
use Rattle.lib_words.specs.Reads.{Rule, refused}
use Rattle.lib_words.specs.Tokens.{is_next, quoted_at}

-- no `;`, newline or `}`; a value also ends at a backslash directly before a newline
abbrev pub is_value : ℕ → Bool
is_value b = not ((b == semicolon || b == newline) || b == right_brace)

-- the length of a value's byte or closed comment here, and 0 where the value ends, as also at a comment that is not closed
unfoldable pub value_piece : List ℕ → ℕ
value_piece s =
    if opens_comment s then comment_len s
    else if length s == 0 || (is_line_break s || not (is_value (first s))) then 0
    else 1

-- the length of a value of at most n of them, of which i bytes were passed
unfoldable pub value_from : ℕ → ℕ → List ℕ → ℕ
value_from zero i s = i
value_from (suc n) i s = if value_piece s == 0 then i else value_from n (i + value_piece s) (drop (value_piece s) s)

-- each of them has a byte at least
abbrev pub value_len : List ℕ → ℕ
value_len s = value_from (length s) 0 s

-- the bytes with a space for each closed comment, of at most n bytes and comments
unfoldable pub spaced : ℕ → List ℕ → List ℕ
spaced zero s = []
spaced (suc n) [] = []
spaced (suc n) (b ∷ s) =
    if comment_len (b ∷ s) == 0 then b ∷ spaced n s else space ∷ spaced n (drop (comment_len (b ∷ s)) (b ∷ s))

-- how long a run is without the white space at its end
abbrev pub trimmed_len : List ℕ → ℕ
trimmed_len run = length run - suffix_len is_ascii_whitespace run

-- what a value without quotes says: its bytes with a space for each comment, without the white space at their end
abbrev pub said : List ℕ → List ℕ
said v = let t = spaced (length v) v in take (trimmed_len t) t

abbrev pub quoted_value : Rule Value
quoted_value total s = quoted_at total s >>= λ p. Ok (record { text = p.0; offset = offset_of total (drop 1 s); is_quoted = true }, after_blanks p.1)

-- a comment that is not closed begins none
abbrev pub bare_value : Rule Value
bare_value total s =
    let n = value_len s in
    if opens_comment s then refused total s
    else Ok (record { text = said (take n s); offset = offset_of total s; is_quoted = false }, after_blanks (drop n s))

-- the value of a simple attribute
unfoldable pub value_at : Rule Value
value_at total s = if is_next quote s then quoted_value total s else bare_value total s
