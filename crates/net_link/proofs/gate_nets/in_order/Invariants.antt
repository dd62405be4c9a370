use Rattle.std.proofs.Common.{◌≡◌, take, map}
use Rattle.net_link.specs.GateNets.{nets_at}
use Rattle.net_link.proofs.gate_nets.in_order.Given as goal

abbrev pub invariant-loop-place : goal.invariant-loop-place
invariant-loop-place l = l.list ≡ map (nets_at l.gates) (take l.place-index l.places)
