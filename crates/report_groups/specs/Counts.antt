-- How often keys stand in a list.
use Rattle.std.specs.Prelude.{◌≡◌, ℕ, ◌+◌, List, count_by, if◌then◌else◌}
use Rattle.std.specs.Option.{unwrap_or}
use Rattle.std.specs.Map.{lookup}
use Rattle.std.specs.Str.{bytes_eq}

-- keys, each once with a number
abbrev pub Counted : Type 0
Counted = List (List ℕ × ℕ)

-- the number of a key, and 0 where it has none
abbrev pub count_in : Counted → List ℕ → ℕ
count_in counts key = unwrap_or (lookup (bytes_eq key) counts) 0

-- the key has one more, and each other key what it had
abbrev pub IsCountedOnce : Counted → List ℕ → Counted → Type 0
IsCountedOnce old key new =
    (other : List ℕ) → count_in new other ≡ (if bytes_eq key other then count_in old key + 1 else count_in old other)

-- each key has the number of its places in the list
abbrev pub AreCountsOf : List (List ℕ) → Counted → Type 0
AreCountsOf keys counts = (key : List ℕ) → count_in counts key ≡ count_by (λ other. bytes_eq other key) keys
