use Rattle.net_link.proofs.Alone.{alone_is, alone_fits}
use Rattle.net_link.proofs.designs.with_enables.Goals as goal

pub returns-then-is_empty-clause-ok : goal.returns-then-is_empty-clause-ok
returns-then-is_empty-clause-ok c = alone_is c.args.gated c.requires (c.is_empty.ensures.0 c.if-is_empty.true)

pub returns-then-is_empty-clause-none : goal.returns-then-is_empty-clause-none
returns-then-is_empty-clause-none c = alone_fits c.args.gated c.requires (c.is_empty.ensures.0 c.if-is_empty.true)
