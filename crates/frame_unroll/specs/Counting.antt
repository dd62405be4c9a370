-- Which places of a function count in a coding: those whose keys its clauses mention.
use Rattle.std.specs.Prelude.{◌≡◌, ℕ, ◌<◌, ◌^◌, ◌↔◌, Bool, true, false, IsTrue, List, [], ◌∷◌, map, length, replicate, slice_index_or, Contains}
use Rattle.std.specs.List.{list_any}
use Rattle.net_model.specs.Form.{xor}
use Rattle.query_model.specs.Keys.{below}
use Rattle.query_model.specs.Tables.{on_list, row_bits}
use Rattle.query_model.specs.Defined.{covering, settling}
use Rattle.query_model.specs.Depends.{other_bit, DependsOn, IsFixedAt}
use Rattle.query_model.specs.declared.keys.Cube.{Cube}
use Rattle.query_model.specs.declared.keys.KeyLit.{KeyLit}
use Rattle.query_model.specs.declared.keys.Coding.{Coding}
use Rattle.query_model.specs.declared.keys.Coding.TheVariants.{Rows, Primes}

-- whether the function's value in a row changes with the bit at a place alone
abbrev pub changes : ((ℕ → Bool) → Bool) → ℕ → List Bool → Bool
changes cell i row = xor (on_list cell row) (on_list cell (other_bit i row))

-- whether it does in some row, so that the function depends on the place
abbrev pub depends : ((ℕ → Bool) → Bool) → ℕ → ℕ → Bool
depends cell places i = list_any (λ w. changes cell i (row_bits places w)) (below (2 ^ places))

-- a mark for each place: by rows each place counts, and by prime cubes those on which the function depends
abbrev pub marks : Coding → ((ℕ → Bool) → Bool) → ℕ → List Bool
marks Rows cell places = replicate places true
marks Primes cell places = map (depends cell places) (below places)

-- the literals with a mark
abbrev pub marked : List Bool → List KeyLit → List KeyLit
marked (true ∷ ms) (l ∷ ls) = l ∷ marked ms ls
marked (false ∷ ms) (l ∷ ls) = marked ms ls
marked _ _ = []

-- of the literals that a function's places read, those of the places that count
abbrev pub counted : Coding → ((ℕ → Bool) → Bool) → List KeyLit → List KeyLit
counted Rows cell reads = reads
counted Primes cell reads = marked (marks Primes cell (length reads)) reads

-- a place counts by rows, and by prime cubes where the function depends on it
abbrev pub Counts : Coding → ((ℕ → Bool) → Bool) → ℕ → ℕ → Type 0
Counts Rows cell places i = i < places
Counts Primes cell places i = DependsOn cell places i

-- some of these cubes fixes the place
abbrev pub IsFixedIn : List Cube → ℕ → Type 0
IsFixedIn cubes i = (e : Cube) × Contains cubes e × IsFixedAt e.fixed i

-- the marks of the places, place 0 first: true where a place counts, and so where some cube that stands for the function fixes it
pub record AreCounts (coding : Coding) (cell : (ℕ → Bool) → Bool) (places : ℕ) (marked_by : List Bool) : Type 0 where
  pub are : marked_by ≡ marks coding cell places
  pub len : length marked_by ≡ places
  pub counts : (i : ℕ) → (IsTrue (slice_index_or marked_by i false) ↔ Counts coding cell places i)
  pub covering : (i : ℕ) → (IsTrue (slice_index_or marked_by i false) ↔ IsFixedIn (covering coding cell places) i)
  pub settling : (i : ℕ) → (IsTrue (slice_index_or marked_by i false) ↔ IsFixedIn (settling coding cell places) i)
