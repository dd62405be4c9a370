use Rattle.std.proofs.Common.{◌≡◌, take, map}
use Rattle.link_defs.specs.Designs.{number_by}
use Rattle.link_design.proofs.numbers.numbers_of.Given as goal

abbrev pub invariant-loop-k : goal.invariant-loop-k
invariant-loop-k l = l.list ≡ map (number_by l.numbers.drivers) (take l.k l.nets)
