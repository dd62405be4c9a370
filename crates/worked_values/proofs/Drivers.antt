-- The driver of each net of a netlist.
use Rattle.std.proofs.Common.{ℕ, ◌==◌, ◌≤◌, [], ◌∷◌, arith}
use Rattle.std.specs.Prelude.{count_by}
use Rattle.link_design.specs.Rows.{IsTwice}
use Rattle.link_design.specs.declared.faults.CircuitFault.TheVariants.{ManyDrivers}

-- two drivers drive net 1
net_has_two_drivers : IsTwice (1 ∷ 0 ∷ 1 ∷ []) (ManyDrivers 1)
net_has_two_drivers = omega arith

-- so not each net has one at most
net_with_two_drivers_is_refused : ((net : ℕ) → count_by (λ m. m == net) (1 ∷ 0 ∷ 1 ∷ []) ≤ 1) → ⊥
net_with_two_drivers_is_refused once = omega (arith, once 1)
