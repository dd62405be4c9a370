-- Those of the first items of a list.
use Rattle.std.specs.Prelude.{◌≡◌, ℕ, ◌≤◌, List, [], ◌++◌, length}
use Rattle.net_paths.specs.Those.{AreThose}

-- those of the first items of a list, of which it holds, and of all its items where they are at most so many
pub record IsCut {A : Type 0} (Holds : A → Type 0) (all : List A) (most : ℕ) (found : List A) : Type 0 where
  pub first : List A
  pub rest : List A
  pub whole : all ≡ first ++ rest
  pub those : AreThose Holds first found
  pub done : length found ≤ most → rest ≡ []

-- a list grows by those of some items of which it holds
pub record AddsThose {A : Type 0} (Holds : A → Type 0) (items old new : List A) : Type 0 where
  pub more : List A
  pub those : AreThose Holds items more
  pub joined : new ≡ old ++ more
