use Rattle.std.proofs.Common.{◌≡◌, ◌++◌, take}
use Rattle.link_circuit.proofs.ports.push_outputs.Given as goal

abbrev pub invariant-loop-k : goal.invariant-loop-k
invariant-loop-k l = record {
  clocks : l.nets.clocks ≡ l.fn.nets.clocks;
  inputs : l.nets.inputs ≡ l.fn.nets.inputs;
  outputs : l.nets.outputs ≡ l.fn.nets.outputs ++ take l.k l.bits;
}
