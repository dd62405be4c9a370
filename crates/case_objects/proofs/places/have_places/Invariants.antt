use Rattle.std.proofs.Common.{◌≡◌, take, false}
use Rattle.std.specs.Prelude.{All}
use Rattle.case_objects.specs.declared.spots.Spot.{Spot}
use Rattle.case_objects.specs.Values.{has_no_place}
use Rattle.case_objects.proofs.places.have_places.Given as goal

abbrev pub invariant-loop-k : goal.invariant-loop-k
invariant-loop-k l = All (λ (s : Spot). has_no_place l.scope.linked.now s ≡ false) (take l.k l.spots)
