-- Tables of the places of points, and rows of places.
use Rattle.std.specs.Prelude.{◌≡◌, ℕ, ◌<◌, List, [], ◌∷◌, ◌++◌, length, Contains, Option, Some, None, slice_get, slice_set, slice_index_or}
use Rattle.std.specs.List.Sorted.{IsStrictlyIncreasing}
use Rattle.query_model.specs.declared.keys.Key.{Key}

-- no point stands at two places
abbrev pub StandOnce : List ℕ → Type 0
StandOnce points = (j k p : ℕ) → slice_get points j ≡ Some p → slice_get points k ≡ Some p → j ≡ k

-- the place of a point, by a table
abbrev pub place_of : List (Option ℕ) → ℕ → Option ℕ
place_of table p = slice_index_or table p None

-- the table tells of each point at which place it stands, and of other numbers nothing
pub record ArePlaces (points : List ℕ) (size : ℕ) (table : List (Option ℕ)) : Type 0 where
  pub len : length table ≡ size
  pub all : (k p : ℕ) → slice_get points k ≡ Some p → place_of table p ≡ Some k
  pub only : (p k : ℕ) → place_of table p ≡ Some k → slice_get points k ≡ Some p

-- the rows with one more place at the end of the row of a cycle, where there is a place
abbrev pub with_place : List (List ℕ) → ℕ → Option ℕ → List (List ℕ)
with_place rows c None = rows
with_place rows c (Some place) = slice_set rows c (slice_index_or rows c [] ++ place ∷ [])

-- the row of each cycle has the places, by the table, of what these keys are about in it, and no numbers that are no places
pub record ArePushed (keys : List Key) (table : List (Option ℕ)) (cycles : ℕ) (rows : List (List ℕ)) : Type 0 where
  pub count : length rows ≡ cycles
  pub only : (c place : ℕ) → Contains (slice_index_or rows c []) place → (p : ℕ) × (place_of table p ≡ Some place)
  pub all : (k : Key) (place : ℕ) → Contains keys k → k.cycle < cycles → place_of table k.point ≡ Some place → Contains (slice_index_or rows k.cycle []) place

-- the same numbers, each once, ascending
pub record IsInOrder (found row : List ℕ) : Type 0 where
  pub ascending : IsStrictlyIncreasing row
  pub only : (n : ℕ) → Contains row n → Contains found n
  pub all : (n : ℕ) → Contains found n → Contains row n

-- so is each row
pub record AreInOrder (found rows : List (List ℕ)) : Type 0 where
  pub count : length rows ≡ length found
  pub each : (c : ℕ) → c < length found → IsInOrder (slice_index_or found c []) (slice_index_or rows c [])
