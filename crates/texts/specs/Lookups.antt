-- Looking a word up in a table whose rows are words with what they mean.
use Rattle.std.specs.Prelude.{ℕ, List, Option, find}
use Rattle.std.specs.Option.{option_map}
use Rattle.std.specs.Str.{bytes_eq}

-- what stands beside these bytes in a table
abbrev pub in_table : {A : Type 0} → List (List ℕ × A) → List ℕ → Option A
in_table rows x = option_map (λ row. row.1) (find (λ row. bytes_eq x row.0) rows)
