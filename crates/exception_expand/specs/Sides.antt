-- The sides of a pair.
use Rattle.std.specs.Prelude.{◌≡◌, ℕ, ◌/◌, Bool, true, false, List, [], ◌∷◌}
use Rattle.exception_expand.specs.declared.pairs.Pair.{Pair}
use Rattle.exception_expand.specs.declared.sides.Side.{Side}
use Rattle.exception_expand.specs.declared.sides.Sides.{Sides}
use Rattle.exception_expand.specs.declared.sides.Sides.TheVariants.{Late, Early, Both}

abbrev pub side : Bool → Pair → Side
side early p = record { early = early; pair = p }

-- these sides of a pair, the late one first
abbrev pub sides_by : Sides → Pair → List Side
sides_by Late p = side false p ∷ []
sides_by Early p = side true p ∷ []
sides_by Both p = side false p ∷ side true p ∷ []

-- the early side, or else the late one, is one of these
abbrev pub HasSide : Sides → Bool → Type 0
HasSide Late early = early ≡ false
HasSide Early early = early ≡ true
HasSide Both early = Unit {0}

-- how many pairs have a claim of each of these sides, where so many claims have room
abbrev pub most_pairs : Sides → ℕ → ℕ
most_pairs Both room = room / 2
most_pairs _ room = room
