use Rattle.std.proofs.Common.{◌≡◌, take, map, length}
use Rattle.net_model.specs.declared.netlist.Gate.{Gate}
use Rattle.link_design.specs.Orders.{need_by}
use Rattle.link_design.proofs.orders.gate_needs.Given as goal

abbrev pub invariant-loop-gate : goal.invariant-loop-gate
invariant-loop-gate l = l.needs.items ≡ map (λ (g : Gate). map (need_by (length l.gates) l.sources l.row) g.ins) (take l.gate-index l.gates)
