use Rattle.link_gates.proofs.Gating.{gated_solutions_are}
use Rattle.link_gates.proofs.laws.gated_solutions_are.Goals as goal

pub returns : goal.returns
returns c = λ tree order gates is. gated_solutions_are c.args.circuit.now tree order gates c.args.gated.now c.requires.once c.requires.gated is
