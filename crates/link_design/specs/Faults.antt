-- Why a circuit gives no design: what each refusal says.
use Rattle.std.specs.Prelude.{◌≡◌, ◌≢◌, ℕ, ◌<◌, ◌==◌, Bool, false, List, length, Contains, Some, slice_get, count_by}
use Rattle.sdcv_base.specs.declared.limits.LimitName.{LimitName}
use Rattle.sdcv_base.specs.declared.limits.LimitName.TheVariants as what
use Rattle.link_defs.specs.declared.circuits.Circuit.{Circuit}
use Rattle.link_defs.specs.declared.circuits.Part.{Part}
use Rattle.link_defs.specs.Circuits.{regs_of, clock_of, all_gates, all_drivers, all_reads, all_data, OnTree, IsTree, IsOnCycle}
use Rattle.link_defs.specs.Designs.{equations, drivers_by}
use Rattle.link_design.specs.declared.faults.CircuitFault.{CircuitFault}
use Rattle.link_design.specs.declared.faults.CircuitFault.TheVariants as fault

-- a register or a clock gate, at a place among the parts, whose clock pin is not on the clock tree after an even number of inversions
abbrev pub IsOffTheClock : Circuit → ℕ → Type 0
IsOffTheClock c place = (p : Part) × (clock : ℕ) × (slice_get c.parts place ≡ Some p) × (clock_of p ≡ Some clock) × (OnTree c clock false → ⊥)

-- a count above its limit; the number is the limit and 1
pub data IsAboveLimit (c : Circuit) : LimitName → ℕ → Type 0 where
  Nets : (tree : List Bool) → IsTree c tree → 200000 < length (drivers_by c (equations tree c)) → IsAboveLimit c what.Nets 200001
  Regs : 20000 < length (regs_of c) → IsAboveLimit c what.Registers 20001
  Inputs : 20000 < length c.inputs → IsAboveLimit c what.Inputs 20001
  Outputs : 20000 < length c.outputs → IsAboveLimit c what.Outputs 20001

-- what a refusal says; want of memory alone is free
abbrev pub IsCause : Circuit → CircuitFault → Type 0
IsCause c (fault.Undriven net) = Contains (all_reads c) net × (Contains (all_drivers c) net → ⊥)
IsCause c (fault.ManyDrivers net) = 1 < count_by (λ m. m == net) (all_drivers c)
IsCause c (fault.Loop net) = IsOnCycle (all_gates c) net
IsCause c (fault.NotTheClock place) = IsOffTheClock c place
IsCause c (fault.ClockAsData net) = (odd : Bool) × Contains (all_data c) net × OnTree c net odd
IsCause c (fault.Limit kind number) = IsAboveLimit c kind number
IsCause c fault.Memory = Unit {0}

-- no refusal but that of memory has its cause
abbrev pub IsFaultless : Circuit → Type 0
IsFaultless c = (f : CircuitFault) → f ≢ fault.Memory → IsCause c f → ⊥
