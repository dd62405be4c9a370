-- Marks, names and quoted texts. A mark or a name takes the white space and comments after it.
use Rattle.std.specs.Prelude.{ℕ, ◌+◌, Bool, not, ◌==◌, if◌then◌else◌, List, length, take, drop, Ok}
use Rattle.std.specs.List.{prefix_len}
use Rattle.texts.specs.Bytes.{is_word}
use Rattle.lib_words.specs.Marks.{quote}
use Rattle.texts.specs.Fronts.{first}
use Rattle.lib_words.specs.Blanks.{after_blanks}
use Rattle.lib_words.specs.Reads.{After, Rule, refused}

-- this mark, which is not 0, comes next
abbrev pub is_next : ℕ → List ℕ → Bool
is_next mark s = first s == mark

-- after one byte, and the white space and comments after it
abbrev pub after_mark : List ℕ → List ℕ
after_mark s = after_blanks (drop 1 s)

-- a mark
unfoldable pub mark_at : ℕ → ℕ → List ℕ → After
mark_at mark total s = if is_next mark s then Ok (after_mark s) else refused total s

-- letters, digits and `_`
unfoldable pub name_at : Rule (List ℕ)
name_at total s =
    let n = prefix_len is_word s in
    if n == 0 then refused total s else Ok (take n s, after_blanks (drop n s))

abbrev pub is_no_quote : ℕ → Bool
is_no_quote b = not (b == quote)

-- where a quote stands: the bytes from there to the next quote, after which the text is left
unfoldable pub quoted_at : Rule (List ℕ)
quoted_at total s =
    let n = prefix_len is_no_quote (drop 1 s) in
    if n == length (drop 1 s) then refused total s else Ok (take n (drop 1 s), drop (n + 2) s)
