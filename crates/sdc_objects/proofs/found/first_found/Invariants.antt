use Rattle.std.proofs.Common.{◌≡◌, map, drop}
use Rattle.sdc_objects.specs.Things.{found, first_some}
use Rattle.sdc_objects.proofs.found.first_found.Given as goal

abbrev pub invariant-loop-class : goal.invariant-loop-class
invariant-loop-class l =
    first_some (map (found l.scope.linked.now l.scope.script.now l.query) l.classes) ≡
    first_some (map (found l.scope.linked.now l.scope.script.now l.query) (drop l.class-index l.classes))
