-- Lists of items with commas between them, and rows of items that follow one another.
use Rattle.std.specs.Prelude.{ℕ, zero, suc, Bool, if◌then◌else◌, List, length, Ok}
use Rattle.texts.specs.Rules.{◌>>=◌}
use Rattle.verilog_words.specs.Codes.{comma}
use Rattle.verilog_words.specs.Marks.{is_next, after_mark, mark_at}
use Rattle.verilog_words.specs.Reads.{Rule, refused}

-- one item or more with a comma between two, up to the closing mark; each adds to what was found before it; of at most n
unfoldable pub list_from : {A : Type 0} → ℕ → (A → Rule A) → ℕ → A → Rule A
list_from close adds zero found total s = refused total s
list_from close adds (suc n) found total s = adds found total s >>= λ p.
    if is_next close p.1 then Ok (p.0, after_mark p.1)
    else (mark_at comma total p.1 >>= λ r. list_from close adds n p.0 total r)

-- each item has a byte at least
abbrev pub list_at : {A : Type 0} → ℕ → (A → Rule A) → A → Rule A
list_at close adds found total s = list_from close adds (suc (length s)) found total s

-- items up to where they end; each adds to what was found before it; of fewer than n
unfoldable pub row_from : {A : Type 0} → (List ℕ → Bool) → (A → Rule A) → ℕ → A → Rule A
row_from ends adds zero found total s = refused total s
row_from ends adds (suc n) found total s = if ends s then Ok (found, s) else (adds found total s >>= λ p. row_from ends adds n p.0 total p.1)

-- each item has a byte at least
abbrev pub row_at : {A : Type 0} → (List ℕ → Bool) → (A → Rule A) → A → Rule A
row_at ends adds found total s = row_from ends adds (suc (length s)) found total s
