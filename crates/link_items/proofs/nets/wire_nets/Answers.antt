use Rattle.link_items.proofs.Along.{wire_nets_more}
use Rattle.link_items.proofs.Listing.{push_more}
use Rattle.link_items.proofs.nets.wire_nets.Goals as goal

pub loop-k-preserved : goal.loop-k-preserved
loop-k-preserved c =
    push_more _ _ _ _ _ _ c.in_ok-push.ensures.ok c.loop-k.invariant c.wire_net.ensures
    (wire_nets_more c.args.nets.now c.args.first c.args.wires.now c.loop-k.k c.at-wire.result c.at-wire.ensures)
