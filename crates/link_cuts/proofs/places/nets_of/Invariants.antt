use Rattle.std.proofs.Common.{◌≡◌, take}
use Rattle.link_cuts.specs.Cutting.{nets_at}
use Rattle.link_cuts.proofs.places.nets_of.Given as goal

abbrev pub invariant-loop-at : goal.invariant-loop-at
invariant-loop-at l = l.nets ≡ nets_at l.cells (take l.at-index l.places)
