-- Looking up the texts of arguments.
use Rattle.std.specs.Prelude.{ℕ, Bool, true, false, List, codes, Option, None, Some}
use Rattle.std.specs.Str.{bytes_eq}
use Rattle.texts.specs.Lookups.{in_table}
use Rattle.clap_words.specs.Readings.{Given}

abbrev pub is_true : Option (List ℕ) → Bool
is_true None = false
is_true (Some text) = bytes_eq text (codes "true")

-- a flag stands
abbrev pub stands : List Given → List ℕ → Bool
stands given id = is_true (in_table given id)

-- the value, where it fits
abbrev pub when : {A : Type 0} → Bool → A → Option A
when false a = None
when true a = Some a
