use Rattle.std.proofs.Common.{◌≡◌, take, map}
use Rattle.net_link.specs.Rows.{clock_gate}
use Rattle.net_link.proofs.enables.clock_gates.Given as goal

abbrev pub invariant-loop-gate : goal.invariant-loop-gate
invariant-loop-gate l = l.list ≡ map (clock_gate l.numbers l.above l.row) (take l.gate-index l.gates)
