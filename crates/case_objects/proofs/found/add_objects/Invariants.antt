use Rattle.std.proofs.Common.{◌≡◌, ◌++◌, take, flat_map}
use Rattle.std.specs.Prelude.{All}
use Rattle.case_objects.specs.Values.{HasPlaces, object_values}
use Rattle.case_objects.proofs.found.add_objects.Given as goal

abbrev pub invariant-loop-k : goal.invariant-loop-k
invariant-loop-k l = record {
  values : l.values ≡ l.fn.values ++ flat_map (object_values l.scope.linked.now l.line l.value) (take l.k l.objects);
  placed : All (HasPlaces l.scope.linked.now) (take l.k l.objects);
}
