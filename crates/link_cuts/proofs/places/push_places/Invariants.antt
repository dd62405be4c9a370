use Rattle.link_cuts.proofs.Placed.{ArePlacesTo}
use Rattle.link_cuts.proofs.places.push_places.Given as goal

abbrev pub invariant-loop-pin : goal.invariant-loop-pin
invariant-loop-pin l = ArePlacesTo l.cells l.fn.places l.cell l.pin l.places
