-- Ends that paths are to lead to, and where each stands among them.
use Rattle.std.specs.Prelude.{◌≡◌, ℕ, ◌<◌, ◌⊎◌, List, length, All, Option, Some, None, slice_get, slice_index_or}
use Rattle.net_model.specs.Fits.{IsEndIn}
use Rattle.net_model.specs.declared.netlist.Design.{Design}
use Rattle.net_model.specs.declared.claims.End.{End}
use Rattle.net_model.specs.declared.claims.End.TheVariants.{Reg as RegEnd, Output as OutputEnd}
use Rattle.net_model.specs.declared.claims.PinRef.{PinRef}
use Rattle.net_model.specs.declared.claims.PinRef.TheVariants.{RegIn, OutPort}
use Rattle.net_paths.specs.declared.aims.Places.{Places}
use Rattle.net_paths.specs.declared.aims.Aims.{Aims}

-- the place that an end has
abbrev pub place_of : Places → End → Option ℕ
place_of p (RegEnd r) = slice_index_or p.regs r None
place_of p (OutputEnd o) = slice_index_or p.outputs o None

-- the place of the end whose pin this is
abbrev pub pin_place : Places → PinRef → Option ℕ
pin_place p (RegIn r i) = place_of p (RegEnd r)
pin_place p (OutPort o) = place_of p (OutputEnd o)
pin_place p _ = None

-- there is room for the place of an end, and for that of the end whose pin this is
abbrev pub HasRoom : Places → End → Type 0
HasRoom p (RegEnd r) = r < length p.regs
HasRoom p (OutputEnd o) = o < length p.outputs

abbrev pub HasRoomAt : Places → PinRef → Type 0
HasRoomAt p (RegIn r i) = HasRoom p (RegEnd r)
HasRoomAt p (OutPort o) = HasRoom p (OutputEnd o)
HasRoomAt p _ = Unit {0}

-- there is room for the place of each register and each output
pub record AreRoomy (d : Design) (p : Places) : Type 0 where
  pub regs : length p.regs ≡ length d.regs
  pub outputs : length p.outputs ≡ length d.outputs

-- the end has this place, and each other one has the place that it had
pub record IsPut (end_ : End) (k : ℕ) (old new : Places) : Type 0 where
  pub regs : length new.regs ≡ length old.regs
  pub outputs : length new.outputs ≡ length old.outputs
  pub placed : place_of new end_ ≡ Some k
  pub others : (e : End) → (e ≡ end_) ⊎ (place_of new e ≡ place_of old e)

-- no end has a place
pub record AreNoPlaces (d : Design) (p : Places) : Type 0 where
  pub room : AreRoomy d p
  pub none : (end_ : End) → place_of p end_ ≡ None

-- each of so many first ends has its own place, and no other end has one
pub record ArePlacesUpTo (d : Design) (ends : List End) (count : ℕ) (p : Places) : Type 0 where
  pub room : AreRoomy d p
  pub listed : (k : ℕ) (end_ : End) → k < count → slice_get ends k ≡ Some end_ → place_of p end_ ≡ Some k
  pub placed : (k : ℕ) (end_ : End) → place_of p end_ ≡ Some k → (k < count) × (slice_get ends k ≡ Some end_)

-- each end has its own place in the list, and what is not listed has none
abbrev pub ArePlaces : Design → List End → Places → Type 0
ArePlaces d ends p = ArePlacesUpTo d ends (length ends) p

-- the same, unless there are no places
abbrev pub AreAnyPlaces : Design → List End → Option Places → Type 0
AreAnyPlaces d ends None = Unit {0}
AreAnyPlaces d ends (Some p) = ArePlaces d ends p

-- the ends are those of the design, and each has its place
pub record AreAimsOf (d : Design) (a : Aims) : Type 0 where
  pub fit : All (IsEndIn d) a.ends.now
  pub places : AreAnyPlaces d a.ends.now a.places
