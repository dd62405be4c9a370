-- The registers near a claim.
use Rattle.std.specs.Prelude.{◌≡◌, ◌≢◌, ℕ, zero, suc, ◌<◌, ◌≤◌, ◌⊎◌, List, [], length, Contains, Some, slice_get}
use Rattle.net_model.specs.Paths.{HasPath}
use Rattle.net_model.specs.declared.netlist.Design.{Design}
use Rattle.net_model.specs.declared.claims.Claim.{Claim}
use Rattle.net_model.specs.declared.claims.Start.TheVariants.{Reg as RegStart}
use Rattle.net_model.specs.declared.claims.End.TheVariants.{Reg as RegEnd}

-- a path of gates, or a net alone, leads from one register to another
abbrev pub Feeds : Design → ℕ → ℕ → Type 0
Feeds d from to = HasPath d (RegStart from) (RegEnd to) []

-- it leads from the register to one of these
abbrev pub FeedsSome : Design → List ℕ → ℕ → Type 0
FeedsSome d regs r = (to : ℕ) × Contains regs to × Feeds d r to

-- the register is the claim's start or its end
abbrev pub IsOwnReg : Claim → ℕ → Type 0
IsOwnReg claim r = (claim.start ≡ RegStart r) ⊎ (claim.end ≡ RegEnd r)

-- the register is of one of the levels up to this one: level 0 has the claim's own registers, and the next level those that feed
-- one of a level before
abbrev pub IsNear : Design → Claim → ℕ → ℕ → Type 0
IsNear d claim zero r = IsOwnReg claim r
IsNear d claim (suc level) r = IsNear d claim level r ⊎ ((to : ℕ) × IsNear d claim level to × Feeds d r to)

-- a register of a lower level comes first, and within a level the one of the smaller number
pub data ComesBefore (d : Design) (claim : Claim) (a b : ℕ) : Type 0 where
  Nearer : (level : ℕ) → IsNear d claim level a → ¬ IsNear d claim level b → ComesBefore d claim a b
  Smaller : ((level : ℕ) → IsNear d claim level b → IsNear d claim level a) → a < b → ComesBefore d claim a b

-- each item of the list comes before those that stand after it
abbrev pub StandInOrder : Design → Claim → List ℕ → Type 0
StandInOrder d claim group = (i j a b : ℕ) → i < j → slice_get group i ≡ Some a → slice_get group j ≡ Some b → ComesBefore d claim a b

-- no two items of the list are equal
abbrev pub Differ : List ℕ → Type 0
Differ regs = (i j a b : ℕ) → i < j → slice_get regs i ≡ Some a → slice_get regs j ≡ Some b → a ≢ b

-- the first sixteen of the registers near a claim: none that comes before one of them is left out, and none at all where they
-- are fewer
pub record IsGroup (d : Design) (claim : Claim) (group : List ℕ) : Type 0 where
  pub few : length group ≤ 16
  pub near : (r : ℕ) → Contains group r → (level : ℕ) × IsNear d claim level r
  pub ordered : StandInOrder d claim group
  pub closed : (r a : ℕ) → Contains group a → ComesBefore d claim r a → Contains group r
  pub full : (level r : ℕ) → length group < 16 → IsNear d claim level r → Contains group r
