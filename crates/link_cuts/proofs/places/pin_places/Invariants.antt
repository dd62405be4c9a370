use Rattle.link_cuts.proofs.Placed.{ArePinsTo}
use Rattle.link_cuts.proofs.places.pin_places.Given as goal

abbrev pub invariant-loop-cell : goal.invariant-loop-cell
invariant-loop-cell l = ArePinsTo l.cells l.cell l.places
