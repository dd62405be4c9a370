-- Words of the language, and names. Each takes what is passed over after it (IEEE 1364-2005, clause 3.7).
use Rattle.std.specs.Prelude.{ℕ, Bool, false, not, ◌==◌, ◌&&◌, ◌||◌, ◌+◌, if◌then◌else◌, List, length, take, drop, slice_index, Option, is_some, Ok}
use Rattle.std.specs.Char.{is_ascii_graphic, is_ascii_whitespace}
use Rattle.std.specs.List.{prefix_len}
use Rattle.std.specs.Str.{bytes_eq}
use Rattle.texts.specs.Bytes.{is_letter, is_word}
use Rattle.texts.specs.Fronts.{first}
use Rattle.verilog_words.specs.declared.words.Word.{Word}
use Rattle.verilog_words.specs.Codes.{backslash, dollar}
use Rattle.verilog_words.specs.Words.{word_of}
use Rattle.verilog_words.specs.Blanks.{after_blanks}
use Rattle.verilog_words.specs.Marks.{is_next}
use Rattle.verilog_words.specs.Reads.{After, Rule, refused}

-- a letter, a digit, `_` or `$`
abbrev pub is_name_byte : ℕ → Bool
is_name_byte b = is_word b || b == dollar

-- the length of the run of these at the front, and 0 where it begins with no letter or `_`
unfoldable pub identifier_len : List ℕ → ℕ
identifier_len s = if is_letter (first s) then prefix_len is_name_byte s else 0

-- that run
abbrev pub identifier : List ℕ → List ℕ
identifier s = take (identifier_len s) s

-- after that run
abbrev pub after_identifier : List ℕ → List ℕ
after_identifier s = after_blanks false (drop (identifier_len s) s)

-- the word of the language that comes next
abbrev pub next_word : List ℕ → Option Word
next_word s = word_of (identifier s)

-- this word comes next
abbrev pub has_word : List ℕ → List ℕ → Bool
has_word word s = bytes_eq (identifier s) word

-- a word
unfoldable pub word_at : List ℕ → ℕ → List ℕ → After
word_at word total s = if has_word word s then Ok (after_identifier s) else refused total s

-- an identifier that is no word of the language
abbrev pub is_name : List ℕ → Bool
is_name run = not (length run == 0) && not (is_some (word_of run))

-- a name comes next, or a backslash, with which an escaped one begins
unfoldable pub begins_name : List ℕ → Bool
begins_name s = is_next backslash s || is_name (identifier s)

-- after a backslash: printable bytes up to white space, which is not part of the name
unfoldable pub escaped_at : Rule (List ℕ)
escaped_at total s =
    let n = prefix_len is_ascii_graphic (drop 1 s) in
    if n == 0 || not (is_ascii_whitespace (slice_index s (n + 1))) then refused total s
    else Ok (take n (drop 1 s), after_blanks false (drop (n + 1) s))

-- a name, without the backslash of an escaped one
unfoldable pub name_at : Rule (List ℕ)
name_at total s =
    if is_next backslash s then escaped_at total s
    else if is_name (identifier s) then Ok (identifier s, after_identifier s)
    else refused total s
