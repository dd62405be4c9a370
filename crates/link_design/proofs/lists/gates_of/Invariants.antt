use Rattle.std.proofs.Common.{◌≡◌, take}
use Rattle.std.specs.Prelude.{flat_map}
use Rattle.link_defs.specs.Circuits.{part_gates}
use Rattle.link_design.proofs.lists.gates_of.Given as goal

abbrev pub invariant-loop-part : goal.invariant-loop-part
invariant-loop-part l = l.list ≡ flat_map part_gates (take l.part-index l.circuit.parts)
