use Rattle.std.proofs.Common.{◌≡◌, take}
use Rattle.case_objects.specs.CaseObjects.{more_fixed}
use Rattle.case_objects.proofs.given.more_fixed.Given as goal

abbrev pub invariant-loop-k : goal.invariant-loop-k
invariant-loop-k l = l.list ≡ more_fixed l.before (take l.k l.values)
