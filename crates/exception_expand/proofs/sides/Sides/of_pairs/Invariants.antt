use Rattle.std.proofs.Common.{◌≡◌, take, flat_map}
use Rattle.exception_expand.specs.Sides.{sides_by}
use Rattle.exception_expand.proofs.sides.Sides.of_pairs.Given as goal

abbrev pub invariant-loop-k : goal.invariant-loop-k
invariant-loop-k l = l.found ≡ flat_map (sides_by l.self) (take l.k l.pairs)
