-- The places of ends at whose pins paths arrive.
use Rattle.std.specs.Prelude.{◌≡◌, ℕ, ◌⊎◌, List, Contains, Some, slice_get}
use Rattle.std.specs.List.Sorted.{IsStrictlyIncreasing}
use Rattle.net_model.specs.Paths.{LeadsTo}
use Rattle.net_model.specs.declared.claims.End.{End}
use Rattle.net_model.specs.declared.claims.PinRef.{PinRef}
use Rattle.net_model.specs.declared.claims.PinRef.TheVariants.{Net}
use Rattle.net_paths.specs.Launches.{IsLaunch}
use Rattle.net_paths.specs.Levels.{AllHaveLevels, MeetsAllAt}
use Rattle.net_paths.specs.Readers.{AreReaders}
use Rattle.net_paths.specs.Cones.{AreNoted}
use Rattle.net_paths.specs.Aims.{pin_place}
use Rattle.net_paths.specs.declared.aims.Places.{Places}
use Rattle.net_paths.specs.declared.reaches.Reach.{Reach}

-- each net of the cone has its level and is noted, and the readers are those of the design
pub record IsReach (r : Reach) : Type 0 where
  pub launch : IsLaunch r.launch.now
  pub readers : AreReaders r.launch.now.design.now r.readers.now.rows.items
  pub noted : AreNoted r.launch.now.design.now.nets r.cone.now
  pub levels : AllHaveLevels r.launch.now.design.now r.launch.now.start.now r.launch.now.sets.now r.cone.now.levels

-- the pin reads the net, all sets are met there, and its end has this place
pub record IsArrival (r : Reach) (p : Places) (net : ℕ) (pin : PinRef) (place : ℕ) : Type 0 where
  pub reads : LeadsTo r.launch.now.design.now (Net net) pin
  pub meets : MeetsAllAt r.launch.now.sets.now r.cone.now.levels pin net
  pub ends : pin_place p pin ≡ Some place

-- such a pin reads the net
abbrev pub ArrivesFrom : Reach → Places → ℕ → ℕ → Type 0
ArrivesFrom r p net place = (pin : PinRef) × IsArrival r p net pin place

-- exactly the numbers of which it holds are added to a list, maybe several times
pub record Adds (Holds : ℕ → Type 0) (old new : List ℕ) : Type 0 where
  pub kept : (n : ℕ) → Contains old n → Contains new n
  pub only : (n : ℕ) → Contains new n → Contains old n ⊎ Holds n
  pub all : (n : ℕ) → Holds n → Contains new n

-- exactly the places of the ends at whose pins paths arrive, maybe several times
pub record AreArrivals (r : Reach) (p : Places) (found : List ℕ) : Type 0 where
  pub only : (place : ℕ) → Contains found place → (net : ℕ) × ArrivesFrom r p net place
  pub all : (net place : ℕ) → ArrivesFrom r p net place → Contains found place

-- the end stands in the list at one of these places
abbrev pub StandsAt : List End → List ℕ → End → Type 0
StandsAt ends places end_ = (k : ℕ) × Contains places k × (slice_get ends k ≡ Some end_)

-- no end stands twice
abbrev pub StandOnce : List End → Type 0
StandOnce ends = (j k : ℕ) (end_ : End) → slice_get ends j ≡ Some end_ → slice_get ends k ≡ Some end_ → j ≡ k

-- the same numbers, each once, in ascending order
pub record IsInOrder (old new : List ℕ) : Type 0 where
  pub ascending : IsStrictlyIncreasing new
  pub only : (n : ℕ) → Contains new n → Contains old n
  pub all : (n : ℕ) → Contains old n → Contains new n
