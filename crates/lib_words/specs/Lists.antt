-- Lists of items up to a closing mark.
use Rattle.std.specs.Prelude.{ℕ, zero, suc, if◌then◌else◌, length, Ok}
use Rattle.texts.specs.Rules.{◌>>=◌}
use Rattle.lib_words.specs.Reads.{Rule, refused}
use Rattle.lib_words.specs.Tokens.{is_next, after_mark}

-- what is gathered up to the closing mark, where each item adds to what was gathered before it; any number of marks of
-- the other kind may stand between two items, before the first and after the last; of fewer than n items and marks
unfoldable pub list_from : {A : Type 0} → ℕ → ℕ → (A → Rule A) → ℕ → A → Rule A
list_from close between adds zero found total s = refused total s
list_from close between adds (suc n) found total s =
    if is_next close s then Ok (found, after_mark s)
    else if is_next between s then list_from close between adds n found total (after_mark s)
    else (adds found total s >>= λ p. list_from close between adds n p.0 total p.1)

-- each item and mark has a byte at least
abbrev pub list_at : {A : Type 0} → ℕ → ℕ → (A → Rule A) → A → Rule A
list_at close between adds found total s = list_from close between adds (suc (length s)) found total s
