use Rattle.link_items.proofs.Along.{ties_more}
use Rattle.link_items.proofs.Listing.{step_more}
use Rattle.link_items.proofs.ties.push_ties.Goals as goal

pub loop-k-preserved : goal.loop-k-preserved
loop-k-preserved c =
    step_more c.args.parts.now _ _ _ _ _ c.in_ok-push_tie.ensures c.loop-k.invariant
    (ties_more c.args.own c.args.wires.now c.loop-k.k c.wire_at-wire.result c.wire_at-wire.ensures)
