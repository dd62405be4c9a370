use Rattle.link_defs.proofs.Permuting.{order_permutes}
use Rattle.link_defs.proofs.laws.equations_are.Goals as goal

pub returns : goal.returns
returns c = λ tree order is. order_permutes c.args.circuit.now tree order is
