-- Pieces of quoted and bare words.
use Rattle.std.specs.Prelude.{ℕ, zero, suc, ◌+◌, nat_lt, Bool, false, not, ◌==◌, ◌&&◌, ◌||◌, if◌then◌else◌, List, [], ◌∷◌, ◌++◌, length, take}
use Rattle.std.specs.Prelude.{drop, slice_index, Option, Some, None, Ok}
use Rattle.std.specs.Char.{is_ascii_digit}
use Rattle.std.specs.List.{prefix_len}
use Rattle.texts.specs.Bytes.{is_word}
use Rattle.texts.specs.Fronts.{has_two}
use Rattle.texts.specs.Rules.{◌>>=◌}
use Rattle.sdc_words.specs.Marks.{tab, newline, space, quote, dollar, star, colon, semicolon, question, left_bracket, backslash, right_bracket}
use Rattle.sdc_words.specs.Marks.{left_brace, right_brace}
use Rattle.sdc_words.specs.declared.pieces.Within.{Within}
use Rattle.sdc_words.specs.declared.pieces.Within.TheVariants as within
use Rattle.sdc_words.specs.declared.words.Piece.{Piece}
use Rattle.sdc_words.specs.declared.words.Piece.TheVariants as piece
use Rattle.sdc_words.specs.Reads.{Rule, refused}
use Rattle.sdc_words.specs.Blanks.{is_next, gap_len}

-- a newline, a `;` or the text's end
abbrev pub ends_command : List ℕ → Bool
ends_command s = length s == 0 || (is_next newline s || is_next semicolon s)

-- a bare word is over at a gap, and at the end of its command or of the brackets around it; a quoted word at a quote without
-- a backslash before it, which `is_slashed` tells
unfoldable pub is_over : Within → Bool → List ℕ → Bool
is_over within.Command is_slashed s = nat_lt 0 (gap_len s) || ends_command s
is_over within.Brackets is_slashed s = nat_lt 0 (gap_len s) || is_next right_bracket s
is_over within.Quotes is_slashed s = is_next quote s && not is_slashed

-- a backslash, and the byte after it, which it gives; a backslash at the text's end stays
unfoldable pub escaped_at : Rule Piece
escaped_at total s = if length s == 1 then Ok (piece.Bytes s, drop 1 s) else Ok (piece.Bytes (take 1 (drop 1 s)), drop 2 s)

-- how many bytes stand before the next `}`, which comes before the word is over; i bytes were passed
unfoldable pub name_from : Within → ℕ → Bool → List ℕ → Option ℕ
name_from w i is_slashed [] = None
name_from w i is_slashed (b ∷ s) =
    if is_over w is_slashed (b ∷ s) then None
    else if b == right_brace then Some i
    else name_from w (i + 1) (b == backslash) s

-- `${`, a name, `}`
unfoldable pub braced_name_at : Within → Rule Piece
braced_name_at w total s = elim (name_from w 0 false (drop 2 s)) [
  | None ↦ refused total s
  | Some n ↦ Ok (piece.Variable (take n (drop 2 s)), drop (n + 3) s)
]

-- `$` and the longest name after it
unfoldable pub name_at : Rule Piece
name_at total s = let n = prefix_len is_word (drop 1 s) in Ok (piece.Variable (take n (drop 1 s)), drop (n + 1) s)

-- a digit, `*`, `?` or `:`
abbrev pub is_index : ℕ → Bool
is_index b = ((is_ascii_digit b || b == star) || b == question) || b == colon

-- `[`, one or more of these, `]`: they stay as they are
unfoldable pub index_at : Rule Piece
index_at total s =
    let n = prefix_len is_index (drop 1 s) in
    if n == 0 || not (is_next right_bracket (drop (n + 1) s)) then refused total s
    else Ok (piece.Bytes (take (n + 2) s), drop (n + 2) s)

-- bytes that part or end words, and bytes that begin what is no byte of its own
abbrev pub is_parting : ℕ → Bool
is_parting b = ((((b == space || b == tab) || b == newline) || b == semicolon) || b == right_bracket) || b == quote

abbrev pub is_plain : ℕ → Bool
is_plain b = not (((is_parting b || b == backslash) || b == dollar) || b == left_bracket)

-- the bytes that come next up to one of these, or else the one
unfoldable pub plain_at : Rule Piece
plain_at total s =
    let n = prefix_len is_plain s in
    if n == 0 then Ok (piece.Bytes (take 1 s), drop 1 s) else Ok (piece.Bytes (take n s), drop n s)

-- a piece of a word that is not over
unfoldable pub piece_at : Within → Rule Piece
piece_at w total s =
    if has_two backslash newline s then Ok (piece.Bytes (space ∷ []), drop 2 s)
    else if is_next backslash s then escaped_at total s
    else if has_two dollar left_brace s then braced_name_at w total s
    else if is_next dollar s && is_word (slice_index s 1) then name_at total s
    else if is_next left_bracket s then index_at total s
    else plain_at total s

-- the pieces up to where the word is over, after those found before; of fewer than n. A piece ends in a backslash where two
-- are its bytes
unfoldable pub pieces_from : Within → ℕ → Bool → List Piece → Rule (List Piece)
pieces_from w zero is_slashed found total s = refused total s
pieces_from w (suc n) is_slashed found total s =
    if is_over w is_slashed s then Ok (found, s)
    else if length s == 0 then refused total s
    else piece_at w total s >>= λ p. pieces_from w n (has_two backslash backslash s) (found ++ p.0 ∷ []) total p.1

-- each piece has a byte at least
abbrev pub pieces_after : Within → List Piece → Rule (List Piece)
pieces_after w found total s = pieces_from w (suc (length s)) false found total s
