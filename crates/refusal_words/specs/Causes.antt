-- The words of a cause, with what a line says put into them.
use Rattle.std.specs.Prelude.{ℕ, ◌==◌, if◌then◌else◌, List, [], ◌∷◌, flat_map}
use Rattle.sdcv_base.specs.Shown.{shown}
use Rattle.refusal_words.specs.Fields.{first_word, after_word}
use Rattle.refusal_words.specs.Numbers.{less_one}

-- what stands for a byte of the words: `@` for what the line says after its head, `<` for the first word of it, `>` for what
-- follows that, `{` and `}` for the numbers one below these, `$` for the word of the cells, and another byte for itself
abbrev pub filling : List ℕ → List ℕ → ℕ → List ℕ
filling said cells b =
    if b == 64 then shown said
    else if b == 60 then shown (first_word said)
    else if b == 62 then shown (after_word said)
    else if b == 123 then less_one (first_word said)
    else if b == 125 then less_one (after_word said)
    else if b == 36 then shown cells
    else shown (b ∷ [])

unfoldable pub filled : List ℕ → List ℕ → List ℕ → List ℕ
filled said cells cause = flat_map (filling said cells) cause
