-- Patterns with `*` and `?`, over names whose parts `/` joins (SDC 2.1, object access).
use Rattle.std.specs.Prelude.{ℕ, Bool, true, false, not, ◌==◌, ◌&&◌, ◌||◌, if◌then◌else◌, List, [], ◌∷◌, length, drop, slice_index}

-- `/`
abbrev pub slash : ℕ
slash = 47

-- `*`
abbrev pub any_run : ℕ
any_run = 42

-- `?`
abbrev pub any_byte : ℕ
any_byte = 63

-- a byte other than `/` stands first
abbrev pub passes : List ℕ → Bool
passes name = not (length name == 0) && not (slice_index name 0 == slash)

-- `?` matches one byte other than `/`, any other byte itself
abbrev pub fits : ℕ → List ℕ → Bool
fits p name = if p == any_byte then passes name else not (length name == 0) && slice_index name 0 == p

-- `*` matches nothing, or one byte other than `/` and then again, before what the rest of the pattern matches
unfoldable pub star : (List ℕ → Bool) → List ℕ → Bool
star rest [] = rest []
star rest (c ∷ cs) = rest (c ∷ cs) || (not (c == slash) && star rest cs)

-- the empty pattern matches the empty name
unfoldable pub matches_whole : List ℕ → List ℕ → Bool
matches_whole [] [] = true
matches_whole [] (c ∷ cs) = false
matches_whole (p ∷ ps) name = if p == any_run then star (matches_whole ps) name else fits p name && matches_whole ps (drop 1 name)

-- a part that follows a `/` matches
unfoldable pub matches_after : List ℕ → List ℕ → Bool
matches_after pattern [] = false
matches_after pattern (c ∷ cs) = (c == slash && matches_whole pattern cs) || matches_after pattern cs

-- below any part of the name too where `hier` is set
abbrev pub matches : List ℕ → List ℕ → Bool → Bool
matches pattern name hier = matches_whole pattern name || (hier && matches_after pattern name)
