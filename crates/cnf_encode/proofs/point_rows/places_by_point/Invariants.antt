use Rattle.cnf_encode.proofs.Placing.{PlacesDone}
use Rattle.cnf_encode.proofs.point_rows.places_by_point.Given as goal

abbrev pub invariant-loop-k : goal.invariant-loop-k
invariant-loop-k l = PlacesDone l.points l.size l.k l.places
