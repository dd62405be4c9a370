use Rattle.std.proofs.Common.{◌≡◌, ◌++◌, take}
use Rattle.sdc_objects.specs.Delays.{things_of_all}
use Rattle.sdc_objects.proofs.delays.add_things_of.Given as goal

abbrev pub invariant-loop-k : goal.invariant-loop-k
invariant-loop-k l = l.found ≡ l.fn.found ++ things_of_all l.scope.linked.now l.scope.script.now (take l.k l.objects)
