use Rattle.std.proofs.Common.{◌≡◌, ◌++◌, take, map}
use Rattle.case_objects.specs.Values.{value_on}
use Rattle.case_objects.proofs.found.add_values.Given as goal

abbrev pub invariant-loop-k : goal.invariant-loop-k
invariant-loop-k l = l.values ≡ l.fn.values ++ map (value_on l.scope.linked.now l.line l.value) (take l.k l.found)
