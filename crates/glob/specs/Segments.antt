-- What comes of laying a pattern on a name up to its first `*`.
use Rattle.std.specs.Prelude.{◌≡◌, ◌≢◌, ℕ, Bool, ◌<◌, ◌≤◌, true, false, List, length, drop, slice_index}
use Rattle.glob.specs.Match.{any_run, fits, matches_whole}
use Rattle.glob.specs.declared.globs.Laid.{Laid}
use Rattle.glob.specs.declared.globs.Laid.TheVariants.{Whole, Star, Fails}

-- the first bytes of the pattern are none of them `*` and match those of the name, one by one
pub record FitsFirst (pattern name : List ℕ) (count : ℕ) : Type 0 where
  pub within : count ≤ length pattern
  pub long : count ≤ length name
  pub plain : (i : ℕ) → i < count → slice_index pattern i ≢ any_run
  pub each : (i : ℕ) → i < count → fits (slice_index pattern i) (drop i name) ≡ true

-- and then a `*` stands
pub record IsBeforeStar (pattern name : List ℕ) (count : ℕ) : Type 0 where
  pub first : FitsFirst pattern name count
  pub here : count < length pattern
  pub star : slice_index pattern count ≡ any_run

-- what each answer of a laying says of the pattern and the name
abbrev pub IsLaid : List ℕ → List ℕ → Laid → Type 0
IsLaid pattern name Whole = matches_whole pattern name ≡ true
IsLaid pattern name (Star count) = IsBeforeStar pattern name count
IsLaid pattern name Fails = matches_whole pattern name ≡ false

-- both end
abbrev pub is_whole : Laid → Bool
is_whole Whole = true
is_whole (Star count) = false
is_whole Fails = false
