-- Patterns that match no name but their own.
use Rattle.std.specs.Prelude.{◌≡◌, ◌↔◌, ℕ, Bool, true, ◌==◌, ◌||◌, List}
use Rattle.glob.specs.Match.{any_run, any_byte, matches_whole}

-- `*` and `?`
abbrev pub is_wild : ℕ → Bool
is_wild byte = (byte == any_run) || (byte == any_byte)

-- the pattern, whole, matches the name that it is and no other
abbrev pub MatchesItselfAlone : List ℕ → Type 0
MatchesItselfAlone pattern = (name : List ℕ) → (matches_whole pattern name ≡ true) ↔ (name ≡ pattern)
