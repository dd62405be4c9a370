use Rattle.link_circuit.proofs.Extending.{all_named}
use Rattle.link_circuit.proofs.fault_laws.faults_are_named.Goals as goal

pub returns : goal.returns
returns c = all_named c.args.source.now c.args.library.now c.args.top.now
