use Rattle.std.proofs.Common.{◌≡◌, take, map}
use Rattle.link_circuit.specs.Orders.{needs_in}
use Rattle.link_circuit.proofs.orders.module_needs.Given as goal

abbrev pub invariant-loop-body : goal.invariant-loop-body
invariant-loop-body l = l.needs.items ≡ map (needs_in l.netlist.source.now) (take l.body-index l.netlist.source.now.modules)
