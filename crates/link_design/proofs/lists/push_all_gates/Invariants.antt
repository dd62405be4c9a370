use Rattle.std.proofs.Common.{◌≡◌, ◌++◌, take}
use Rattle.std.specs.Prelude.{flat_map}
use Rattle.net_model.specs.Netlist.{gate_nets}
use Rattle.link_defs.specs.Circuits.{part_gates}
use Rattle.link_design.proofs.lists.push_all_gates.Given as goal

abbrev pub invariant-loop-part : goal.invariant-loop-part
invariant-loop-part l = l.nets ≡ l.fn.nets ++ gate_nets (flat_map part_gates (take l.part-index l.parts))
