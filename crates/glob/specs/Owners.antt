-- Names that stand before a `/` of a pattern.
use Rattle.std.specs.Prelude.{◌≡◌, ◌⊎◌, ℕ, ◌<◌, Bool, false, List, length, take, Option, Some, None, slice_get, slice_index}
use Rattle.glob.specs.declared.owners.Owner.{Owner}
use Rattle.glob.specs.declared.owners.Owner.TheVariants.{Nobody, One, Many}
use Rattle.glob.specs.Indexes.{IsExact, tells}

-- the name at place k stands before the `/` at a place of the pattern
pub record IsOwnerAt (names : List (List ℕ)) (pattern : List ℕ) (slash k : ℕ) : Type 0 where
  pub within : slash < length pattern
  pub here : slice_index pattern slash ≡ 47
  pub name : slice_get names k ≡ Some (take slash pattern)

-- names stand before two of the first slashes of a pattern
pub record HasTwoOwners (names : List (List ℕ)) (pattern : List ℕ) (upto : ℕ) : Type 0 where
  pub first : ℕ
  pub second : ℕ
  pub in_order : first < second
  pub within : second < upto
  pub k : ℕ
  pub l : ℕ
  pub one : IsOwnerAt names pattern first k
  pub other : IsOwnerAt names pattern second l

-- none of the names, one alone or several stand before the first slashes of a pattern
abbrev pub IsOwnerTo : List (List ℕ) → List ℕ → ℕ → Owner → Type 0
IsOwnerTo names pattern upto Nobody = (slash k : ℕ) → slash < upto → ¬ IsOwnerAt names pattern slash k
IsOwnerTo names pattern upto (One owner) =
    (owner < length names) × ((slash : ℕ) × (slash < upto) × IsOwnerAt names pattern slash owner)
    × ((slash k : ℕ) → slash < upto → IsOwnerAt names pattern slash k → k ≡ owner)
IsOwnerTo names pattern upto Many = HasTwoOwners names pattern upto

-- before all its slashes, where it matches itself alone; several, or the table doesn't tell
abbrev pub IsOwner : List (List ℕ) → List ℕ → Bool → Owner → Type 0
IsOwner names pattern hier Many = HasTwoOwners names pattern (length pattern) ⊎ (tells names pattern hier ≡ false)
IsOwner names pattern hier owner = IsOwnerTo names pattern (length pattern) owner × IsExact pattern hier

-- the place of a name, None where it is not among them
abbrev pub IsPlace : List (List ℕ) → List ℕ → Option ℕ → Type 0
IsPlace names name None = (k : ℕ) → ¬ (slice_get names k ≡ Some name)
IsPlace names name (Some place) = (slice_get names place ≡ Some name) × ((k : ℕ) → slice_get names k ≡ Some name → k ≡ place)

-- one more name stands before a slash, if there is one
abbrev pub join : Owner → Option ℕ → Owner
join owner None = owner
join Nobody (Some place) = One place
join (One other) (Some place) = Many
join Many (Some place) = Many
