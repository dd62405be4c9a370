-- Names that can be written in braces and are read as they stand.
use Rattle.std.specs.Prelude.{ℕ, Bool, not, ◌==◌, ◌&&◌, ◌||◌, List, length}
use Rattle.std.specs.List.{list_all}
use Rattle.texts.specs.Bytes.{is_word}
use Rattle.texts.specs.Fronts.{first}

-- `$`, `/`, `[`, `]`, `.`, `:` and `-`
abbrev pub is_joining : ℕ → Bool
is_joining b = (((((b == 36 || b == 47) || b == 91) || b == 93) || b == 46) || b == 58) || b == 45

-- a letter, a digit, `_`, or one of these
abbrev pub is_name_byte : ℕ → Bool
is_name_byte b = is_word b || is_joining b

-- the name is not empty, has such bytes alone, and does not begin with a `-`, which would make it an option
abbrev pub is_writable : List ℕ → Bool
is_writable name = not (length name == 0) && (not (first name == 45) && list_all is_name_byte name)
