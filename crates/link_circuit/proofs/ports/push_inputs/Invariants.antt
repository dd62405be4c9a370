use Rattle.std.proofs.Common.{take}
use Rattle.link_circuit.specs.Ports.{HasInputs}
use Rattle.link_circuit.proofs.ports.push_inputs.Given as goal

abbrev pub invariant-loop-k : goal.invariant-loop-k
invariant-loop-k l = HasInputs l.body l.clock (take l.k l.bits) l.fn.nets l.nets
