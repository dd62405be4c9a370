use Rattle.std.proofs.Common.{◌≡◌, take, flat_map}
use Rattle.case_objects.specs.CaseObjects.{told_of}
use Rattle.case_objects.proofs.given.told.Given as goal

abbrev pub invariant-loop-k : goal.invariant-loop-k
invariant-loop-k l = l.list ≡ flat_map (told_of l.ports) (take l.k l.values)
