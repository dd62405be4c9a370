use Rattle.std.proofs.Common.{◌≡◌, take}
use Rattle.net_link.specs.GateNets.{outs_of}
use Rattle.net_link.proofs.gate_nets.outs_of.Given as goal

abbrev pub invariant-loop-gate : goal.invariant-loop-gate
invariant-loop-gate l = l.outs ≡ outs_of (take l.gate-index l.gates)
