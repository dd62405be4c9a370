use Rattle.std.proofs.Common.{◌≡◌, take}
use Rattle.std.specs.Prelude.{flat_map}
use Rattle.net_link.specs.Rows.{part_behind}
use Rattle.net_link.proofs.designs.gates_behind.Given as goal

abbrev pub invariant-loop-part : goal.invariant-loop-part
invariant-loop-part l = l.list ≡ flat_map (part_behind l.above l.row) (take l.part-index l.circuit.parts)
