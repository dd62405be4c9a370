use Rattle.std.proofs.Common.{ap}
use Rattle.net_model.specs.declared.netlist.RegOut.{RegOut}
use Rattle.link_items.proofs.Along.{reg_outs_more}
use Rattle.link_items.proofs.Listing.{push_more}
use Rattle.link_items.proofs.cells.reg_outs.Goals as goal

pub loop-k-preserved : goal.loop-k-preserved
loop-k-preserved c =
    push_more _ _ _ _ _ _ c.in_ok-push.ensures.ok c.loop-k.invariant
    (ap (λ net. let r : RegOut = record { net = net; inverted = c.item-output.result.now.inverted } in r) c.pin_net-net.ensures)
    (reg_outs_more c.args.nets.now c.args.conns.now c.args.own c.args.outs.now c.loop-k.k c.item-output.result.now c.item-output.ensures)
