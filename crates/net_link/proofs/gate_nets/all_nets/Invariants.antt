use Rattle.std.proofs.Common.{◌≡◌, take}
use Rattle.std.specs.Prelude.{flat_map}
use Rattle.net_link.specs.GateNets.{part_nets}
use Rattle.net_link.proofs.gate_nets.all_nets.Given as goal

abbrev pub invariant-loop-part : goal.invariant-loop-part
invariant-loop-part l = l.list ≡ flat_map part_nets (take l.part-index l.circuit.parts)
