use Rattle.link_defs.proofs.Solving.{solutions_are}
use Rattle.link_defs.proofs.laws.solutions_are.Goals as goal

pub returns : goal.returns
returns c = λ tree order is sound. solutions_are c.args.circuit.now tree order c.args.design.now is sound
