-- Whether a cube can do without what it fixes at a place.
use Rattle.std.specs.Prelude.{ℕ, ◌&&◌, Bool, true, false, List, slice_index_or, slice_set}
use Rattle.net_model.specs.Splitting.{cell_value}
use Rattle.net_model.specs.declared.terns.Tern.{Tern}
use Rattle.net_model.specs.declared.terns.Tern.TheVariants.{Zero, One, Unknown}

-- the value is a bit
abbrev pub is_known : Tern → Bool
is_known Zero = true
is_known One = true
is_known Unknown = false

-- the cube fixes the place, and the function has one value on the cube that does not
abbrev pub can_free : ((ℕ → Bool) → Bool) → List Tern → ℕ → Bool
can_free cell ts i =
    is_known (slice_index_or ts i Unknown) && is_known (cell_value cell (λ j. slice_index_or (slice_set ts i Unknown) j Zero))
