use Rattle.std.proofs.Common.{◌+◌, List, sym, subst, arith}
use Rattle.link_cuts.specs.declared.places.PinPlace.{PinPlace}
use Rattle.link_cuts.proofs.Placed.{ArePlacesTo, pins_len, places_none, places_more, places_all}
use Rattle.link_cuts.proofs.places.push_places.Goals as goal

pub loop-pin-init : goal.loop-pin-init
loop-pin-init c = places_none c.args.cells.now c.args.places.now c.args.cell c.requires.at

pub loop-pin-preserved : goal.loop-pin-preserved
loop-pin-preserved c =
    subst (λ (ps : List PinPlace). ArePlacesTo c.args.cells.now c.args.places.now c.args.cell (c.loop-pin.pin + 1) ps) (sym c.in_ok-push.ensures.ok)
    (places_more c.args.cells.now c.args.places.now c.loop-pin.places c.args.cell c.loop-pin.pin c.requires.cell
    (omega (arith, pins_len c.args.cells.now c.args.cell c.item.result.now c.item.ensures)) c.loop-pin.invariant)

pub returns-clause-pins : goal.returns-clause-pins
returns-clause-pins c =
    places_all c.args.cells.now c.args.places.now c.loop-pin.places c.args.cell c.loop-pin.pin
    (omega (arith, pins_len c.args.cells.now c.args.cell c.item.result.now c.item.ensures)) c.loop-pin.invariant
