use Rattle.link_items.proofs.Along.{pin_ties_more}
use Rattle.link_items.proofs.Listing.{step_more}
use Rattle.link_items.proofs.ties.push_pin_ties.Goals as goal

pub loop-k-preserved : goal.loop-k-preserved
loop-k-preserved c =
    step_more c.args.parts.now _ _ _ _ _ c.in_ok-push_pin_tie.ensures c.loop-k.invariant
    (pin_ties_more c.args.conns.now c.args.own c.args.pins.now c.loop-k.k c.item.result.now c.item.ensures)
