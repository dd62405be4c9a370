-- Words that are no nested commands: in braces, in quotes, or bare.
use Rattle.std.specs.Prelude.{ℕ, ◌+◌, ◌-◌, nat_lt, Bool, false, not, if◌then◌else◌, List, [], ◌∷◌, take, drop, Ok}
use Rattle.texts.specs.Rules.{◌>>=◌}
use Rattle.sdc_words.specs.Marks.{quote, left_brace}
use Rattle.sdc_words.specs.declared.pieces.Within.{Within}
use Rattle.sdc_words.specs.declared.pieces.Within.TheVariants as within
use Rattle.sdc_words.specs.declared.words.Piece.{Piece}
use Rattle.sdc_words.specs.declared.words.Piece.TheVariants as piece
use Rattle.sdc_words.specs.Reads.{After, Rule, refused, deep}
use Rattle.sdc_words.specs.Blanks.{is_next}
use Rattle.sdc_words.specs.declared.braces.Match.TheVariants as match
use Rattle.sdc_words.specs.Braces.{may_open, matched, joined}
use Rattle.sdc_words.specs.Pieces.{is_over, piece_at, pieces_after}

-- what a bare word stands in
abbrev pub around : Bool → Within
around is_inside = if is_inside then within.Brackets else within.Command

-- a closing brace, quote or bracket is followed by what ends a bare word
unfoldable pub parted : Bool → ℕ → List ℕ → After
parted is_inside total s = if is_over (around is_inside) false s then Ok s else refused total s

-- `{`, all bytes up to the `}` that matches it, without substitution; in so many brackets
unfoldable pub braced_at : ℕ → Rule (List Piece)
braced_at opened total s =
    if not (may_open opened) then deep total s
    else elim (matched (opened + 1) (drop 1 s)) [
      | match.Closed n ↦ Ok (piece.Bytes (joined (take (n - 1) (drop 1 s))) ∷ [], drop (n + 1) s)
      | match.Deep place ↦ deep total (drop (place + 1) s)
      | match.Unclosed ↦ refused total s
    ]

unfoldable pub quote_at : ℕ → List ℕ → After
quote_at total s = if is_next quote s then Ok (drop 1 s) else refused total s

-- `"`, pieces, `"`
unfoldable pub quoted_at : Rule (List Piece)
quoted_at total s = pieces_after within.Quotes [] total (drop 1 s) >>= λ p. quote_at total p.1 >>= λ r. Ok (p.0, r)

-- one piece or more
unfoldable pub bare_at : Bool → Rule (List Piece)
bare_at is_inside total s = piece_at (around is_inside) total s >>= λ p. pieces_after (around is_inside) (p.0 ∷ []) total p.1

-- the pieces of a word in so many brackets
unfoldable pub text_at : ℕ → Rule (List Piece)
text_at opened total s =
    let is_inside = nat_lt 0 opened in
    if is_next left_brace s then (braced_at opened total s >>= λ p. parted is_inside total p.1 >>= λ r. Ok (p.0, r))
    else if is_next quote s then (quoted_at total s >>= λ p. parted is_inside total p.1 >>= λ r. Ok (p.0, r))
    else bare_at is_inside total s
