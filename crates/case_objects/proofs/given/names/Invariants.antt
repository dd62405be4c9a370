use Rattle.std.proofs.Common.{◌≡◌, take, flat_map}
use Rattle.case_objects.specs.CaseObjects.{names_of}
use Rattle.case_objects.proofs.given.names.Given as goal

abbrev pub invariant-loop-k : goal.invariant-loop-k
invariant-loop-k l = l.list ≡ flat_map names_of (take l.k l.values)
