-- White space and comments.
use Rattle.std.specs.Prelude.{ℕ, zero, suc, Bool, ◌==◌, ◌||◌, ◌+◌, if◌then◌else◌, List, [], ◌∷◌, length, drop}
use Rattle.std.specs.Char.{is_ascii_whitespace}
use Rattle.std.specs.Option.{option_map_or}
use Rattle.texts.specs.Fronts.{first, has_two, closed_by}
use Rattle.lib_words.specs.Marks.{backslash, newline, slash, star}

-- `/*`
abbrev pub opens_comment : List ℕ → Bool
opens_comment s = has_two slash star s

-- a backslash directly before a newline
abbrev pub is_line_break : List ℕ → Bool
is_line_break s = has_two backslash newline s

-- white space: space, tab, newline, carriage return, form feed, or a backslash directly before a newline
abbrev pub is_blank : List ℕ → Bool
is_blank s = is_ascii_whitespace (first s) || is_line_break s

-- what follows white space
unfoldable pub after_space : List ℕ → List ℕ
after_space [] = []
after_space (b ∷ s) = if is_blank (b ∷ s) then after_space s else b ∷ s

-- the length of the closed comment at the front, and 0 where none stands there
unfoldable pub comment_len : List ℕ → ℕ
comment_len s = if opens_comment s then option_map_or (λ n. n + 2) (closed_by star slash (drop 2 s)) 0 else 0

-- the length of a byte of white space or of the closed comment at the front, and 0 where neither stands there
unfoldable pub blank_len : List ℕ → ℕ
blank_len s = if is_blank s then 1 else comment_len s

-- after at most so many of them
unfoldable pub skipped : ℕ → List ℕ → List ℕ
skipped zero s = s
skipped (suc n) s = if blank_len s == 0 then s else skipped n (drop (blank_len s) s)

-- after all of them: each has a byte at least
unfoldable pub after_blanks : List ℕ → List ℕ
after_blanks s = skipped (length s) s
