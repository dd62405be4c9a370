use Rattle.link_circuit.proofs.Placed.{placed}
use Rattle.link_circuit.proofs.orders.place_of.Goals as goal

pub returns : goal.returns
returns c = placed c.args.netlist.now.source.now c.args.name.now c.args.netlist.now.modules c.place.result c.args.netlist.now.module_table c.place.ensures
