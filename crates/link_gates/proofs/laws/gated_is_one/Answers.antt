use Rattle.link_gates.proofs.OneGated.{order_same, gated_same}
use Rattle.link_gates.proofs.laws.gated_is_one.Goals as goal

pub returns-clause-order : goal.returns-clause-order
returns-clause-order c = order_same c.args.circuit.now c.requires.clocked

pub returns-clause-design : goal.returns-clause-design
returns-clause-design c = λ tree other_tree order gates other_gates. gated_same c.args.circuit.now tree other_tree order gates other_gates c.requires.clocked
