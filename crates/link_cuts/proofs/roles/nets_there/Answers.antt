use Rattle.link_defs.specs.Cuts.{net_of}
use Rattle.link_items.proofs.Listing.{push_more, map_next}
use Rattle.link_cuts.specs.declared.places.PinPlace.{PinPlace}
use Rattle.link_cuts.specs.Cutting.{pin_at}
use Rattle.link_cuts.proofs.roles.nets_there.Goals as goal

pub loop-k-preserved : goal.loop-k-preserved
loop-k-preserved c =
    push_more _ _ _ _ _ _ c.in_ok-push.ensures.ok c.loop-k.invariant c.net_there.ensures
    (map_next (λ (at : PinPlace). net_of (pin_at c.args.cells.now at)) c.args.places.now c.loop-k.k c.at.result c.at.ensures)
