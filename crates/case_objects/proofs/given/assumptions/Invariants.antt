use Rattle.std.proofs.Common.{◌≡◌, take, flat_map}
use Rattle.case_objects.specs.CaseObjects.{assumed_of}
use Rattle.case_objects.proofs.given.assumptions.Given as goal

abbrev pub invariant-loop-k : goal.invariant-loop-k
invariant-loop-k l = l.list ≡ flat_map assumed_of (take l.k l.values)
