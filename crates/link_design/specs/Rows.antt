-- The driver of each net, as a row over the nets.
use Rattle.std.specs.Prelude.{◌≡◌, ℕ, ◌<◌, ◌≤◌, ◌==◌, nat_lt, ◌&&◌, Bool, List, length, Some, slice_get, slice_index_or, count_by}
use Rattle.link_defs.specs.Designs.{number_by}
use Rattle.link_design.specs.declared.faults.CircuitFault.{CircuitFault}
use Rattle.link_design.specs.declared.faults.CircuitFault.TheVariants as fault

-- each net has the place of its driver, and one without a driver the number of the drivers
pub record IsDriverRow (drivers : List ℕ) (nets : ℕ) (row : List ℕ) : Type 0 where
  pub len : length row ≡ nets
  pub at : (net : ℕ) → net < nets → slice_get row net ≡ Some (number_by drivers net)

-- the net has one of so many drivers
abbrev pub is_driven : List ℕ → ℕ → ℕ → Bool
is_driven row drivers net = nat_lt net (length row) && nat_lt (slice_index_or row net 0) drivers

-- the net has two drivers
abbrev pub IsTwice : List ℕ → CircuitFault → Type 0
IsTwice drivers (fault.ManyDrivers net) = 1 < count_by (λ m. m == net) drivers
IsTwice drivers fault.Memory = Unit {0}
IsTwice drivers f = ⊥

-- the first drivers are in the row, and no other place is
pub record IsRowTo (drivers : List ℕ) (nets k : ℕ) (row : List ℕ) : Type 0 where
  pub len : length row ≡ nets
  pub put : (j net : ℕ) → j < k → slice_get drivers j ≡ Some net → slice_get row net ≡ Some j
  pub from : (net j : ℕ) → slice_get row net ≡ Some j → j < length drivers → (j < k) × (slice_get drivers j ≡ Some net)
  pub most : (net j : ℕ) → slice_get row net ≡ Some j → j ≤ length drivers
