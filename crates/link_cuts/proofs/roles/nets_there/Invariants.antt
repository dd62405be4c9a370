use Rattle.std.proofs.Common.{◌≡◌, take}
use Rattle.link_cuts.specs.Cutting.{nets_at}
use Rattle.link_cuts.proofs.roles.nets_there.Given as goal

abbrev pub invariant-loop-k : goal.invariant-loop-k
invariant-loop-k l = l.nets ≡ nets_at l.cells (take l.k l.places)
