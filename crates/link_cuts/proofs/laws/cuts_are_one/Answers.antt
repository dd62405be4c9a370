use Rattle.link_cuts.proofs.OneCut.{one_cut}
use Rattle.link_cuts.proofs.laws.cuts_are_one.Goals as goal

pub returns : goal.returns
returns c = λ d k j one two. one_cut d k j c.args.cells.now one two
