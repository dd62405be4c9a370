-- The design of a circuit with its clock gates, and the numbers of nets in its rewritten design.
use Rattle.std.specs.Prelude.{ℕ, ◌≤◌, ◌==◌, List, count_by}
use Rattle.icg_rewrite.specs.Gated.{AreGated}
use Rattle.net_model.specs.declared.netlist.Gate.{Gate}
use Rattle.link_defs.specs.declared.circuits.Circuit.{Circuit}
use Rattle.link_defs.specs.Circuits.{all_drivers}
use Rattle.link_defs.specs.GateOrders.{ClockPart}
use Rattle.link_defs.specs.GatedDesigns.{IsGatedOf, enabled_drivers}
use Rattle.link_design.specs.Made.{IsClocked}
use Rattle.link_design.specs.Rows.{IsDriverRow}
use Rattle.net_link.specs.declared.designs.GatedDesign.{GatedDesign}

-- the design of a circuit with its clock gates, by this order of its gates: it can be rewritten where there is room, and the row has the
-- number of each net in the rewritten design, where the output of a clock gate has that of its enable
pub record IsGatedDesign (c : Circuit) (order : List Gate) (g : GatedDesign) : Type 0 where
  pub once : (net : ℕ) → count_by (λ m. m == net) (all_drivers c) ≤ 1
  pub clocked : IsClocked c
  pub gates : List ClockPart
  pub gated_is : IsGatedOf c g.tree order gates g.gated
  pub lawful : AreGated g.gated
  pub numbers : IsDriverRow (enabled_drivers c order gates) c.nets g.numbers
