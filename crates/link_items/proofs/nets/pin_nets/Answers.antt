use Rattle.link_items.proofs.Along.{pin_nets_more}
use Rattle.link_items.proofs.Listing.{push_more}
use Rattle.link_items.proofs.nets.pin_nets.Goals as goal

pub loop-k-preserved : goal.loop-k-preserved
loop-k-preserved c =
    push_more _ _ _ _ _ _ c.in_ok-push.ensures.ok c.loop-k.invariant c.pin_net-net.ensures
    (pin_nets_more c.args.nets.now c.args.conns.now c.args.own c.args.pins.now c.loop-k.k c.item.result.now c.item.ensures)
