-- Keys by where they lie. A page has a number for each of 128 points of a rail of a layer of a cycle, and the first page, which is blank,
-- stands for each that is not made.
use Rattle.std.specs.Prelude.{◌≡◌, ℕ, ◌+◌, ◌*◌, ◌/◌, ◌%◌, ◌^◌, ◌<◌, ◌≤◌, List, Some, length, slice_get, slice_index}
use Rattle.query_model.specs.declared.keys.Key.{Key}
use Rattle.frame_unroll.specs.Found.{IsSmall}

-- the place of a key's page where each rail has so many: a cycle has 6 layers, and a layer 2 rails
abbrev pub page_place : ℕ → Key → ℕ
page_place width k = ((k.cycle * 6 + k.layer) * 2 + k.rail) * width + k.point / 128

-- where the key's number stands
abbrev pub slot : ℕ → List ℕ → Key → ℕ
slot width pages k = slice_index pages (page_place width k) * 128 + k.point % 128

-- the number that stands there
abbrev pub number_at : ℕ → List ℕ → List ℕ → Key → ℕ
number_at width pages numbers k = slice_index numbers (slot width pages k)

-- the first page is blank
abbrev pub IsBlank : List ℕ → Type 0
IsBlank numbers = (i : ℕ) → i < 128 → slice_index numbers i ≡ 0

-- there are whole pages, of which the first is blank, and each that is named is one of them
pub record ArePages (pages numbers : List ℕ) : Type 0 where
  pub whole : length numbers % 128 ≡ 0
  pub blank : IsBlank numbers
  pub within : (i : ℕ) → slice_index pages i * 128 + 128 ≤ length numbers

-- the number of each key is its place and 1 more
pub record AreNumbered (width : ℕ) (pages numbers : List ℕ) (keys : List Key) : Type 0 where
  pub wide : width ≤ 1720
  pub are_pages : ArePages pages numbers
  pub few : length keys < 2 ^ 32
  pub small : (i : ℕ) (k : Key) → slice_get keys i ≡ Some k → IsSmall k
  pub placed : (i : ℕ) (k : Key) → slice_get keys i ≡ Some k → number_at width pages numbers k ≡ i + 1
