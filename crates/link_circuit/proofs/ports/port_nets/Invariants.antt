use Rattle.std.proofs.Common.{take}
use Rattle.link_circuit.proofs.Ported.{ArePorts}
use Rattle.link_circuit.proofs.ports.port_nets.Given as goal

abbrev pub invariant-loop-k : goal.invariant-loop-k
invariant-loop-k l = ArePorts l.body l.clock (take l.k l.body.ports) l.nets
