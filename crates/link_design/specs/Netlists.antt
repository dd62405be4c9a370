-- The design by the numbers of its nets, and its sizes.
use Rattle.std.specs.Prelude.{◌≡◌, ℕ, ◌<◌, ◌≤◌, ◌==◌, List, length, map, count_by}
use Rattle.sdcv_base.specs.declared.limits.LimitName.{LimitName}
use Rattle.sdcv_base.specs.declared.limits.LimitName.TheVariants as what
use Rattle.net_model.specs.Netlist.{AllBelow}
use Rattle.net_model.specs.declared.netlist.Design.{Design}
use Rattle.net_model.specs.declared.netlist.Gate.{Gate}
use Rattle.link_defs.specs.declared.circuits.Circuit.{Circuit}
use Rattle.link_defs.specs.Circuits.{regs_of}
use Rattle.link_defs.specs.Designs.{number_by, moved, moved_reg}
use Rattle.link_design.specs.declared.designs.Held.{Held}
use Rattle.link_design.specs.declared.faults.CircuitFault.{CircuitFault}
use Rattle.link_design.specs.declared.faults.CircuitFault.TheVariants as fault
use Rattle.link_design.specs.declared.numbers.NetNumbers.{NetNumbers}
use Rattle.link_design.specs.Kept.{kept_drivers}
use Rattle.link_design.specs.Numbered.{IsNumbering}

-- drivers of nets below a number, each net of one at most
pub record AreDrivers (nets : ℕ) (drivers : List ℕ) : Type 0 where
  pub below : AllBelow nets drivers
  pub once : (net : ℕ) → count_by (λ m. m == net) drivers ≤ 1

-- the numbers by the drivers of the design
pub record IsNumberedBy (c : Circuit) (gates : List Gate) (kept : List ℕ) (n : NetNumbers) : Type 0 where
  pub drivers_are : n.drivers ≡ kept_drivers c gates kept
  pub row_is : IsNumbering n
  pub len : length n.row ≡ c.nets

-- the design of a circuit with these drivers and gates
pub record IsNetlist (c : Circuit) (drivers : List ℕ) (order : List Gate) (h : Held) (d : Design) : Type 0 where
  pub nets : d.nets ≡ length drivers
  pub gates : d.gates ≡ map (moved (number_by drivers)) order
  pub regs : d.regs ≡ map (moved_reg (number_by drivers)) (regs_of c)
  pub inputs : d.inputs ≡ map (number_by drivers) c.inputs
  pub outputs : d.outputs ≡ map (number_by drivers) c.outputs
  pub fixed : d.fixed ≡ h.fixed
  pub resets : d.resets ≡ h.resets
  pub reset_len : d.reset_len ≡ h.reset_len

-- the sizes that a circuit decides
pub record IsSized (d : Design) : Type 0 where
  pub nets : d.nets ≤ 200000
  pub regs : length d.regs ≤ 20000
  pub inputs : length d.inputs ≤ 20000
  pub outputs : length d.outputs ≤ 20000

-- one of them is above its limit
abbrev pub IsSizeAbove : Design → LimitName → ℕ → Type 0
IsSizeAbove d what.Nets number = (200000 < d.nets) × (number ≡ 200001)
IsSizeAbove d what.Registers number = (20000 < length d.regs) × (number ≡ 20001)
IsSizeAbove d what.Inputs number = (20000 < length d.inputs) × (number ≡ 20001)
IsSizeAbove d what.Outputs number = (20000 < length d.outputs) × (number ≡ 20001)
IsSizeAbove d kind number = ⊥

abbrev pub IsTooLarge : Design → CircuitFault → Type 0
IsTooLarge d (fault.Limit kind number) = IsSizeAbove d kind number
IsTooLarge d fault.Memory = Unit {0}
IsTooLarge d f = ⊥
