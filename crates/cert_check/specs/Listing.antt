-- Marks of the claims that are listed.
use Rattle.std.specs.Prelude.{◌≡◌, ◌↔◌, ℕ, ◌≤◌, Bool, true, Some, List, length, Contains}
use Rattle.cert_values.specs.declared.faults.CertFault.{CertFault}
use Rattle.cert_values.specs.declared.faults.CertFault.TheVariants.{Form, Version, UnknownRegister, UnknownPair, TwicePair}
use Rattle.cert_values.specs.declared.faults.CertFault.TheVariants.{NotTrivial, Invariant, Pair, Memory}
use Rattle.cert_defs.specs.Listed.{item_numbered, AreDistinct}
use Rattle.cert_defs.specs.Accepted.{AscendFrom}
use Rattle.cert_defs.specs.Refused.{ListsTwice}

-- a mark a claim, set exactly at the claims of these numbers, which are distinct
pub record AreMarksOf (count : ℕ) (numbers : List ℕ) (marks : List Bool) : Type 0 where
  pub as_many : length marks ≡ count
  pub marked : (number : ℕ) → (item_numbered marks number ≡ Some true) ↔ Contains numbers number
  pub once : AreDistinct numbers

-- the numbers up to a count whose mark is set, ascending
pub record AreMarked (marks : List Bool) (count : ℕ) (numbers : List ℕ) : Type 0 where
  pub ascending : AscendFrom 1 numbers
  pub same : (number : ℕ) → Contains numbers number ↔ ((number ≤ count) × (item_numbered marks number ≡ Some true))

-- a number is listed twice; or there is no memory
abbrev pub IsTwiceFault : List ℕ → CertFault → Type 0
IsTwiceFault numbers (TwicePair number) = ListsTwice numbers number
IsTwiceFault numbers Memory = Unit {0}
IsTwiceFault numbers (Form offset) = ⊥
IsTwiceFault numbers (Version number) = ⊥
IsTwiceFault numbers (UnknownRegister place) = ⊥
IsTwiceFault numbers (UnknownPair number) = ⊥
IsTwiceFault numbers (NotTrivial number) = ⊥
IsTwiceFault numbers (Invariant place fault) = ⊥
IsTwiceFault numbers (Pair number fault) = ⊥
