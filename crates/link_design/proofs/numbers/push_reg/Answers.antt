use Rattle.link_design.proofs.Making.{outs_below}
use Rattle.link_design.proofs.numbers.push_reg.Goals as goal

pub numbered_reg-requires-clause-outs : goal.numbered_reg-requires-clause-outs
numbered_reg-requires-clause-outs c = outs_below c.in-Flop.reg.outs (rw c.in-Flop.is at c.requires.part).outs
