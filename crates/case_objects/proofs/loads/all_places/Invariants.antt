use Rattle.std.proofs.Common.{◌≡◌, take, flat_map}
use Rattle.case_objects.specs.declared.values.CaseValue.{CaseValue}
use Rattle.case_objects.proofs.loads.all_places.Given as goal

abbrev pub invariant-loop-k : goal.invariant-loop-k
invariant-loop-k l = l.list ≡ flat_map (λ (v : CaseValue). v.place) (take l.k l.values)
