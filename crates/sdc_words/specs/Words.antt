-- The words of a command.
use Rattle.std.specs.Prelude.{ℕ, zero, suc, ◌+◌, ◌-◌, nat_lt, ◌==◌, ◌&&◌, if◌then◌else◌, List, [], ◌∷◌, ◌++◌, length, drop, Ok}
use Rattle.texts.specs.Rules.{◌>>=◌, offset_of}
use Rattle.sdc_words.specs.Marks.{left_bracket, right_bracket}
use Rattle.sdc_words.specs.declared.words.Word.{Word}
use Rattle.sdc_words.specs.declared.words.Word.TheVariants as word
use Rattle.sdc_words.specs.Reads.{Rule, refused, deep}
use Rattle.sdc_words.specs.Braces.{may_open}
use Rattle.sdc_words.specs.Blanks.{is_next, after_gaps}
use Rattle.sdc_words.specs.Pieces.{ends_command}
use Rattle.sdc_words.specs.Texts.{parted, text_at}

-- where so many brackets are open: a `[` that opens one, the `]` of the last, or a text; and how many are open then
unfoldable pub word_at : ℕ → Rule (ℕ × Word)
word_at opened total s =
    if is_next left_bracket s then (if may_open opened then Ok ((opened + 1, word.Opens (offset_of total s)), drop 1 s) else deep total s)
    else if nat_lt 0 opened && is_next right_bracket s then
    (parted (nat_lt 0 (opened - 1)) total (drop 1 s) >>= λ r. Ok ((opened - 1, word.Closes), r))
    else if length s == 0 then refused total s
    else (text_at opened total s >>= λ p. Ok ((opened, word.Text (offset_of total s) p.0), p.1))

-- the same of a word of which nothing is kept
abbrev pub word_past : ℕ → Rule ℕ
word_past opened total s = word_at opened total s >>= λ p. Ok (p.0.0, p.1)

-- the words up to the command's end, after those found before, where so many brackets are open; of fewer than n
unfoldable pub words_from : ℕ → ℕ → List Word → Rule (List Word)
words_from zero opened found total s = refused total s
words_from (suc n) opened found total s =
    let r = after_gaps s in
    if opened == 0 && ends_command r then Ok (found, r)
    else word_at opened total r >>= λ p. words_from n p.0.0 (found ++ p.0.1 ∷ []) total p.1

-- each word has a byte at least
abbrev pub words_after : ℕ → List Word → Rule (List Word)
words_after opened found total s = words_from (suc (length s)) opened found total s

-- one word or more
unfoldable pub words_at : Rule (List Word)
words_at total s = word_at 0 total s >>= λ p. words_after p.0.0 (p.0.1 ∷ []) total p.1
