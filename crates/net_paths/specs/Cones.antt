-- The nets of the paths from one start, as they are found.
use Rattle.std.specs.Prelude.{◌≡◌, ℕ, ◌+◌, ◌<◌, ◌≤◌, ◌⊎◌, List, [], ◌∷◌, ◌++◌, length, Contains, Option, Some, None, slice_get, slice_index, slice_set}
use Rattle.net_model.specs.Netlist.{AllBelow}
use Rattle.net_model.specs.Pins.{start_nets}
use Rattle.net_model.specs.declared.netlist.Design.{Design}
use Rattle.net_model.specs.declared.netlist.Gate.{Gate}
use Rattle.net_model.specs.declared.claims.Start.{Start}
use Rattle.net_model.specs.declared.claims.PinRef.{PinRef}
use Rattle.net_model.specs.declared.claims.PinRef.TheVariants.{Net, GateIn}
use Rattle.net_paths.specs.Levels.{advanced, Reaches, level_at, IsAtLeast, met_through}
use Rattle.net_paths.specs.declared.cones.Cone.{Cone}

-- no net has a level
pub record IsEmptyCone (nets : ℕ) (c : Cone) : Type 0 where
  pub len : length c.levels ≡ nets
  pub empty : (net : ℕ) → level_at c.levels net ≡ None
  pub none : c.nets.items ≡ []
  pub told : c.told ≡ 0

-- each net that has a level is noted
pub record AreNoted (nets : ℕ) (c : Cone) : Type 0 where
  pub len : length c.levels ≡ nets
  pub noted : (net met : ℕ) → level_at c.levels net ≡ Some met → Contains c.nets.items net
  pub in_range : AllBelow nets c.nets.items

-- the net stands among the noted ones at this place or after it
abbrev pub IsPending : Cone → ℕ → ℕ → Type 0
IsPending c next net = (place : ℕ) × (next ≤ place) × (slice_get c.nets.items place ≡ Some net)

-- the outputs of the gates that read the net have at least the level that so many sets at the net give
abbrev pub IsTold : Design → List (List PinRef) → List (Option ℕ) → ℕ → ℕ → Type 0
IsTold d sets levels net met =
    (k : ℕ) (g : Gate) (i : ℕ) → slice_get d.gates k ≡ Some g → i < length g.ins → slice_index g.ins i ≡ net
    → IsAtLeast (met_through sets k g.out i met) (level_at levels g.out)

-- levels are of paths from the start, whose nets have at least theirs; each net before a place has told its readers
pub record IsGrowing (d : Design) (start : Start) (sets : List (List PinRef)) (c : Cone) (next : ℕ) : Type 0 where
  pub noted : AreNoted d.nets c
  pub reached : (net met : ℕ) → level_at c.levels net ≡ Some met → Reaches d start sets (Net net) met
  pub seeded : (net : ℕ) → Contains (start_nets d start) net → IsAtLeast (advanced sets 0 (Net net)) (level_at c.levels net)
  pub told : (net met : ℕ) → level_at c.levels net ≡ Some met → IsPending c next net ⊎ IsTold d sets c.levels net met

-- the same where the first nets of the start have levels, and nothing else has
pub record IsSeeded (d : Design) (start : Start) (sets : List (List PinRef)) (seeds : List ℕ) (c : Cone) : Type 0 where
  pub noted : AreNoted d.nets c
  pub reached : (net met : ℕ) → level_at c.levels net ≡ Some met → Reaches d start sets (Net net) met
  pub seeded : (net : ℕ) → Contains seeds net → IsAtLeast (advanced sets 0 (Net net)) (level_at c.levels net)

-- nothing is changed
pub record IsUnchanged (old new : Cone) : Type 0 where
  pub levels : new.levels ≡ old.levels
  pub nets : new.nets.items ≡ old.nets.items
  pub told : new.told ≡ old.told

-- the net has at least this level: it had, or it is given it and noted
pub data IsRaised (net met : ℕ) (old new : Cone) : Type 0 where
  Was : IsAtLeast met (level_at old.levels net) → IsUnchanged old new → IsRaised net met old new
  Is_now : ¬ IsAtLeast met (level_at old.levels net) → new.levels ≡ slice_set old.levels net (Some met) → new.nets.items ≡ old.nets.items ++ net ∷ []
      → new.told ≡ old.told → IsRaised net met old new

-- no net has a lower level than before, and one whose level changed is noted after all others
pub record IsGrown (old new : Cone) : Type 0 where
  pub no_lower : (net met : ℕ) → IsAtLeast met (level_at old.levels net) → IsAtLeast met (level_at new.levels net)
  pub longer : length old.nets.items ≤ length new.nets.items
  pub same : (place : ℕ) → place < length old.nets.items → slice_get new.nets.items place ≡ slice_get old.nets.items place
  pub kept : (net : ℕ) → (level_at new.levels net ≡ level_at old.levels net) ⊎ IsPending new (length old.nets.items) net
  pub told : new.told ≡ old.told

-- where the pin is one of a gate, the gate's output has at least the level that it gives
abbrev pub IsPassed : Design → List (List PinRef) → ℕ → PinRef → List (Option ℕ) → Type 0
IsPassed d sets met (GateIn k i) levels = (g : Gate) → slice_get d.gates k ≡ Some g → IsAtLeast (met_through sets k g.out i met) (level_at levels g.out)
IsPassed d sets met _ levels = Unit {0}

-- the net has told its readers its level, or is noted again after this place
abbrev pub IsToldAt : Design → List (List PinRef) → ℕ → Cone → ℕ → Type 0
IsToldAt d sets net c next = (met : ℕ) → level_at c.levels net ≡ Some met → IsPending c (next + 1) net ⊎ IsTold d sets c.levels net met
