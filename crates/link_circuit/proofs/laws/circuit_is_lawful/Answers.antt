use Rattle.link_circuit.proofs.Circuited.{circuit_lawful}
use Rattle.link_circuit.proofs.laws.circuit_is_lawful.Goals as goal

pub returns : goal.returns
returns c = circuit_lawful c.args.source.now c.args.library.now c.args.top.now
