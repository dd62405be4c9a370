-- Numbers in order.
use Rattle.std.specs.Prelude.{ℕ, List, Contains}
use Rattle.std.specs.List.Sorted.{IsStrictlyIncreasing}

-- the same numbers, each once, ascending
pub record IsInOrder (old new : List ℕ) : Type 0 where
  pub ascending : IsStrictlyIncreasing new
  pub only : (n : ℕ) → Contains new n → Contains old n
  pub all : (n : ℕ) → Contains old n → Contains new n
