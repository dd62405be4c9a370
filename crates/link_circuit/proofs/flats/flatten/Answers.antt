use Rattle.link_circuit.proofs.Standing.{has_ranks}
use Rattle.link_circuit.proofs.flats.flatten.Goals as goal

pub walk-requires-clause-ranks : goal.walk-requires-clause-ranks
walk-requires-clause-ranks c = has_ranks c.args.netlist.now.source.now c.in_ok-_order._order c.in_ok-_order.ensures.ok
