use Rattle.std.proofs.Common.{◌≡◌, take, map}
use Rattle.link_cuts.specs.Groups.{pin_on}
use Rattle.link_cuts.proofs.cells.pins_on.Given as goal

abbrev pub invariant-loop-k : goal.invariant-loop-k
invariant-loop-k l = l.list ≡ map (pin_on l.nets) (take l.k l.pins)
