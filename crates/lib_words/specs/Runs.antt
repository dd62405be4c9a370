-- Arguments: quoted texts, or runs of bytes.
use Rattle.std.specs.Prelude.{ℕ, ◌+◌, Bool, not, ◌==◌, ◌||◌, if◌then◌else◌, List, [], ◌∷◌, take, drop, Ok}
use Rattle.std.specs.Char.{is_ascii_whitespace}
use Rattle.lib_words.specs.Marks.{comma, left_paren, quote, right_paren}
use Rattle.texts.specs.Fronts.{first}
use Rattle.lib_words.specs.Blanks.{is_blank, is_line_break, opens_comment, after_blanks}
use Rattle.texts.specs.Rules.{◌>>=◌}
use Rattle.lib_words.specs.Reads.{Rule, refused}
use Rattle.lib_words.specs.Tokens.{is_next, quoted_at}

-- no white space, `,`, `(`, `)` or `"`
abbrev pub is_run : ℕ → Bool
is_run b = not ((((is_ascii_whitespace b || b == comma) || b == left_paren) || b == right_paren) || b == quote)

-- the run ends here: at another byte, a comment, or a backslash directly before a newline
abbrev pub ends_run : List ℕ → Bool
ends_run s = opens_comment s || (is_line_break s || not (is_run (first s)))

-- the length of a run, of which i bytes were passed
unfoldable pub run_from : ℕ → List ℕ → ℕ
run_from i [] = i
run_from i (b ∷ s) = if ends_run (b ∷ s) then i else run_from (i + 1) s

abbrev pub run_len : List ℕ → ℕ
run_len s = run_from 0 s

-- a run that is not empty
unfoldable pub run_at : Rule (List ℕ)
run_at total s = if run_len s == 0 then refused total s else Ok (take (run_len s) s, drop (run_len s) s)

-- white space, a comment, `,` or `)` comes next
abbrev pub is_parted : List ℕ → Bool
is_parted s = ((is_blank s || is_next comma s) || is_next right_paren s) || opens_comment s

-- a quoted text or a run
abbrev pub word_at : Rule (List ℕ)
word_at total s = if is_next quote s then quoted_at total s else run_at total s

-- an argument, parted from what follows it
unfoldable pub argument_at : Rule (List ℕ)
argument_at total s = word_at total s >>= λ p. if is_parted p.1 then Ok (p.0, after_blanks p.1) else refused total p.1
