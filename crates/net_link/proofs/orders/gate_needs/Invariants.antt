use Rattle.std.proofs.Common.{◌≡◌, take, map}
use Rattle.net_link.specs.Rows.{needs_by}
use Rattle.net_link.proofs.orders.gate_needs.Given as goal

abbrev pub invariant-loop-gate : goal.invariant-loop-gate
invariant-loop-gate l = l.needs.items ≡ map (needs_by l.above l.row) (take l.gate-index l.gates)
