-- The lists of a set of pins in which pins are looked up.
use Rattle.std.specs.Prelude.{List}
use Rattle.std.specs.declared.cmp.Ordering.{Ordering}
use Rattle.std.specs.List.Sorted.{IsPermutation, IsSorted}
use Rattle.net_model.specs.declared.claims.PinRef.{PinRef}

-- the second list has the pins of the first in ascending order
pub record IsAscending (order : PinRef → PinRef → Ordering) (listed ascending : List PinRef) : Type 0 where
  pub same : IsPermutation listed ascending
  pub rises : IsSorted order ascending
