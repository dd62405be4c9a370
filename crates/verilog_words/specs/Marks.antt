-- Marks. Each takes what is passed over after it.
use Rattle.std.specs.Prelude.{ℕ, Bool, false, not, ◌==◌, ◌&&◌, if◌then◌else◌, List, drop, Ok}
use Rattle.texts.specs.Fronts.{first}
use Rattle.verilog_words.specs.Codes.{left_paren}
use Rattle.verilog_words.specs.Blanks.{after_blanks, begins_attribute}
use Rattle.verilog_words.specs.Reads.{After, refused}

-- this mark, which is not 0, comes next
abbrev pub is_next : ℕ → List ℕ → Bool
is_next mark s = first s == mark

-- after one byte, and what is passed over after it
abbrev pub after_mark : List ℕ → List ℕ
after_mark s = after_blanks false (drop 1 s)

-- a mark
unfoldable pub mark_at : ℕ → ℕ → List ℕ → After
mark_at mark total s = if is_next mark s then Ok (after_mark s) else refused total s

-- `(` that begins no attribute; where a token may begin, such a one can only be an attribute that is not closed
unfoldable pub opens_list : List ℕ → Bool
opens_list s = is_next left_paren s && not (begins_attribute s)

-- the `(` of a list
unfoldable pub open_at : ℕ → List ℕ → After
open_at total s = if opens_list s then Ok (after_mark s) else refused total s
