use Rattle.std.proofs.Common.{◌∙◌}
use Rattle.link_design.proofs.Making.{number_more}
use Rattle.link_design.proofs.numbers.numbers_of.Goals as goal

pub loop-k-preserved : goal.loop-k-preserved
loop-k-preserved c =
    c.in_ok-push.ensures.ok
    ∙ number_more c.args.numbers.now.drivers c.args.nets.now c.loop-k.k c.at-net.result c.number.result c.loop-k.list c.loop-k.invariant c.at-net.ensures
    c.number.ensures
