-- Groups as they grow, level by level.
use Rattle.std.specs.Prelude.{◌≡◌, ℕ, ◌<◌, ◌≤◌, ◌==◌, List, [], ◌∷◌, ◌++◌, length, Contains, Some, slice_get, min, max, if◌then◌else◌}
use Rattle.net_model.specs.declared.netlist.Design.{Design}
use Rattle.net_model.specs.declared.claims.Claim.{Claim}
use Rattle.net_model.specs.declared.claims.Start.{Start}
use Rattle.net_model.specs.declared.claims.Start.TheVariants.{Reg as RegStart, Input as InputStart}
use Rattle.net_model.specs.declared.claims.End.{End}
use Rattle.net_model.specs.declared.claims.End.TheVariants.{Reg as RegEnd, Output as OutputEnd}
use Rattle.inv_candidates.specs.Near.{IsNear, ComesBefore, StandInOrder}

-- one or two registers, ascending
abbrev pub ascending_two : ℕ → ℕ → List ℕ
ascending_two a b = if a == b then (a ∷ []) else (min a b ∷ max a b ∷ [])

-- a claim's own registers, ascending
abbrev pub own_regs : Start → End → List ℕ
own_regs (RegStart a) (RegEnd b) = ascending_two a b
own_regs (RegStart a) (OutputEnd o) = a ∷ []
own_regs (InputStart i) (RegEnd b) = b ∷ []
own_regs (InputStart i) (OutputEnd o) = []

-- the first registers of the levels up to this one
pub record IsUpTo (d : Design) (claim : Claim) (level : ℕ) (group : List ℕ) : Type 0 where
  pub few : length group ≤ 16
  pub near : (r : ℕ) → Contains group r → IsNear d claim level r
  pub ordered : StandInOrder d claim group
  pub closed : (r a : ℕ) → Contains group a → ComesBefore d claim r a → Contains group r
  pub full : (r : ℕ) → length group < 16 → IsNear d claim level r → Contains group r

-- a list's items ascend
abbrev pub Ascends : List ℕ → Type 0
Ascends regs = (i j a b : ℕ) → i < j → slice_get regs i ≡ Some a → slice_get regs j ≡ Some b → a < b

-- registers of which something holds were appended, ascending, up to sixteen in all: none that was there, none left out below
-- one of them, and none at all where there are fewer
pub record IsGrown (Holds : ℕ → Type 0) (old new : List ℕ) : Type 0 where
  pub more : List ℕ
  pub whole : new ≡ old ++ more
  pub few : length new ≤ 16
  pub ascends : Ascends more
  pub fresh : (r : ℕ) → Contains more r → ¬ Contains old r
  pub holds : (r : ℕ) → Contains more r → Holds r
  pub closed : (r a : ℕ) → Contains more a → r < a → Holds r → Contains new r
  pub full : (r : ℕ) → length new < 16 → Holds r → Contains new r
