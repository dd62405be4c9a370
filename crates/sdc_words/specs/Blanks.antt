-- What parts words, and what may stand between commands.
use Rattle.std.specs.Prelude.{ℕ, zero, suc, ◌+◌, nat_lt, Bool, false, not, ◌==◌, ◌&&◌, ◌||◌, if◌then◌else◌, List, [], ◌∷◌, length, drop}
use Rattle.texts.specs.Fronts.{first, has_two}
use Rattle.sdc_words.specs.Marks.{tab, newline, space, hash, semicolon, backslash}

-- this mark, which is not 0, comes next
abbrev pub is_next : ℕ → List ℕ → Bool
is_next mark s = first s == mark

-- the length of a gap between words, and 0 where none stands: a space, a tab, or a backslash directly before a newline
unfoldable pub gap_len : List ℕ → ℕ
gap_len s = if is_next space s || is_next tab s then 1 else if has_two backslash newline s then 2 else 0

-- a backslash that takes the byte after it with it, unless it is taken itself
abbrev pub takes_next : Bool → ℕ → Bool
takes_next is_taken b = b == backslash && not is_taken

-- how many bytes of a comment stand up to the first newline that no backslash takes with it; i bytes were passed
unfoldable pub comment_from : ℕ → Bool → List ℕ → ℕ
comment_from i is_taken [] = i
comment_from i is_taken (b ∷ s) = if b == newline && not is_taken then i else comment_from (i + 1) (takes_next is_taken b) s

abbrev pub comment_len : List ℕ → ℕ
comment_len s = comment_from 0 false s

-- the length of what may stand before a command, and 0 where nothing such stands: a gap, a newline, a `;`, a comment
unfoldable pub blank_len : List ℕ → ℕ
blank_len s =
    if nat_lt 0 (gap_len s) then gap_len s
    else if is_next newline s || is_next semicolon s then 1
    else if is_next hash s then comment_len s
    else 0

-- after at most n pieces, where this tells the length of the piece that stands at the front
unfoldable pub skipped : (List ℕ → ℕ) → ℕ → List ℕ → List ℕ
skipped len zero s = s
skipped len (suc n) s = if len s == 0 then s else skipped len n (drop (len s) s)

-- after all gaps: each has a byte at least
unfoldable pub after_gaps : List ℕ → List ℕ
after_gaps s = skipped gap_len (length s) s

-- after all that may stand before a command
unfoldable pub after_blanks : List ℕ → List ℕ
after_blanks s = skipped blank_len (length s) s
