-- What is known of a circuit on the way to its design, and the design.
use Rattle.std.specs.Prelude.{◌≡◌, ℕ, ◌<◌, ◌≤◌, ◌==◌, Bool, false, List, ◌++◌, All, Contains, slice_get, Some, Ok, count_by}
use Rattle.graph_order.specs.Orders.{order_of}
use Rattle.net_model.specs.Netlist.{AllBelow, IsSound, setting_inputs}
use Rattle.net_model.specs.declared.netlist.Gate.{Gate}
use Rattle.link_defs.specs.declared.circuits.Circuit.{Circuit}
use Rattle.link_defs.specs.declared.circuits.Part.{Part}
use Rattle.link_defs.specs.Circuits.{clock_of, all_gates, all_drivers, all_reads, all_data, OnTree, IsOnCycle}
use Rattle.link_defs.specs.Designs.{IsDesignOf, drivers_by, gate_needs}
use Rattle.link_defs.specs.Above.{IsAboveRow}
use Rattle.link_design.specs.declared.designs.CircuitDesign.{CircuitDesign}
use Rattle.link_design.specs.declared.designs.Held.{Held}
use Rattle.link_design.specs.declared.ordered.OrderedGates.{OrderedGates}
use Rattle.link_design.specs.Lists.{all_marks}
use Rattle.link_design.specs.Orders.{IsGateOrder}
use Rattle.link_design.specs.Rows.{IsDriverRow}

-- the gates of a circuit in whose nets each has one driver at most, and one where it is read
pub record IsOrdered (c : Circuit) (o : OrderedGates) : Type 0 where
  pub gates : o.gates ≡ all_gates c
  pub marks : o.marks ≡ all_marks c
  pub once : (net : ℕ) → count_by (λ m. m == net) (all_drivers c) ≤ 1
  pub driven : All (Contains (all_drivers c)) (all_reads c)
  pub order : IsGateOrder (all_gates c) o.order
  pub found : order_of (gate_needs (all_gates c)) ≡ Ok o.order
  pub acyclic : (net : ℕ) → IsOnCycle (all_gates c) net → ⊥

-- each register and each clock gate is on the clock, and the clock is read as a clock alone
pub record IsClocked (c : Circuit) : Type 0 where
  pub clocks : (place clock : ℕ) (p : Part) → slice_get c.parts place ≡ Some p → clock_of p ≡ Some clock → OnTree c clock false
  pub as_data : (net : ℕ) (odd : Bool) → Contains (all_data c) net → OnTree c net odd → ⊥

-- the values of inputs: of so many, none twice, and resets for at most 64 cycles
pub record IsHeldBy (inputs : ℕ) (h : Held) : Type 0 where
  pub below : AllBelow inputs (setting_inputs h.fixed ++ setting_inputs h.resets)
  pub once : (i : ℕ) → i < inputs → count_by (λ m. m == i) (setting_inputs h.fixed ++ setting_inputs h.resets) ≤ 1
  pub reset_len : h.reset_len ≤ 64

-- the design of a circuit on the clock in whose nets each has one driver at most, and one where it is read: it is sound, with the nets
-- of the clock tree, the clock gate above each of them, and the number of each net that something drives
pub record IsMade (c : Circuit) (h : Held) (made : CircuitDesign) : Type 0 where
  pub once : (net : ℕ) → count_by (λ m. m == net) (all_drivers c) ≤ 1
  pub driven : All (Contains (all_drivers c)) (all_reads c)
  pub order : List Gate
  pub design_is : IsDesignOf c made.tree order made.design
  pub sound : IsSound made.design
  pub clocked : IsClocked c
  pub above : IsAboveRow c made.above
  pub fixed : made.design.fixed ≡ h.fixed
  pub resets : made.design.resets ≡ h.resets
  pub reset_len : made.design.reset_len ≡ h.reset_len
  pub numbers : IsDriverRow (drivers_by c order) c.nets made.numbers
