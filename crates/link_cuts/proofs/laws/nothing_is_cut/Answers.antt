use Rattle.link_cuts.proofs.OneCut.{none_cut}
use Rattle.link_cuts.proofs.laws.nothing_is_cut.Goals as goal

pub returns : goal.returns
returns c = none_cut c.args.circuit.now
