use Rattle.std.proofs.Common.{◌≡◌, ◌++◌, take}
use Rattle.std.specs.Prelude.{flat_map}
use Rattle.link_design.specs.Lists.{part_reg_nets}
use Rattle.link_design.proofs.lists.data_sources.Given as goal

abbrev pub invariant-loop-part : goal.invariant-loop-part
invariant-loop-part l = l.nets ≡ l.circuit.inputs ++ flat_map part_reg_nets (take l.part-index l.circuit.parts)
