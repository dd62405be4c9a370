-- The places on which a function depends.
use Rattle.std.specs.Prelude.{◌≡◌, ◌≢◌, ℕ, zero, suc, Bool, not, List, [], ◌∷◌, length, Contains}
use Rattle.net_model.specs.declared.terns.Tern.{Tern}
use Rattle.net_model.specs.declared.terns.Tern.TheVariants.{Zero, One, Unknown}
use Rattle.query_model.specs.Tables.{Cube, on_list}
use Rattle.query_model.specs.Defined.{prime_cubes}

-- the row with the other bit at a place
abbrev pub other_bit : ℕ → List Bool → List Bool
other_bit i [] = []
other_bit zero (b ∷ bs) = not b ∷ bs
other_bit (suc i) (b ∷ bs) = b ∷ other_bit i bs

-- the cube fixes the place
abbrev pub IsFixedAt : List Tern → ℕ → Type 0
IsFixedAt [] i = ⊥
IsFixedAt (Zero ∷ ts) zero = Unit {0}
IsFixedAt (One ∷ ts) zero = Unit {0}
IsFixedAt (Unknown ∷ ts) zero = ⊥
IsFixedAt (t ∷ ts) (suc i) = IsFixedAt ts i

-- in some row the function's value changes with that bit alone
pub record DependsOn (cell : (ℕ → Bool) → Bool) (places i : ℕ) : Type 0 where
  pub row : List Bool
  pub len : length row ≡ places
  pub differs : on_list cell row ≢ on_list cell (other_bit i row)

-- some prime cube of the function fixes the place
abbrev pub IsFixedBySome : ((ℕ → Bool) → Bool) → ℕ → ℕ → Type 0
IsFixedBySome cell places i = (e : Cube) × Contains (prime_cubes cell places) e × IsFixedAt e.fixed i
