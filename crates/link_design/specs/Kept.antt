-- The gates that stand in the design, in their order.
use Rattle.std.specs.Prelude.{ℕ, Bool, not, List, ◌++◌, map, filter}
use Rattle.sdcv_base.specs.Seqs.{is_marked}
use Rattle.net_model.specs.declared.netlist.Gate.{Gate}
use Rattle.net_model.specs.Netlist.{gate_nets}
use Rattle.link_defs.specs.declared.circuits.Circuit.{Circuit}
use Rattle.link_defs.specs.Designs.{gate_at}
use Rattle.link_design.specs.Lists.{data_sources}
use Rattle.link_design.specs.Trees.{is_tree_gate}

-- the gate at a place is none of the clock tree's
abbrev pub is_kept : List Bool → List Gate → List Bool → ℕ → Bool
is_kept tree gates marks place = not (is_tree_gate tree (is_marked marks place) (gate_at gates place))

-- the gates of the design in an order of all gates
abbrev pub kept_in : List Bool → List Gate → List Bool → List ℕ → List Gate
kept_in tree gates marks order = map (gate_at gates) (filter (is_kept tree gates marks) order)

-- the drivers of the design, with the gates at these places
abbrev pub kept_drivers : Circuit → List Gate → List ℕ → List ℕ
kept_drivers c gates kept = data_sources c ++ gate_nets (map (gate_at gates) kept)
