use Rattle.std.proofs.Common.{◌≡◌, ◌+◌, map}
use Rattle.query_model.specs.Keys.{below}
use Rattle.cnf_encode.proofs.point_tables.bit_points.Given as goal

abbrev pub invariant-loop-r : goal.invariant-loop-r
invariant-loop-r l = l.points.items ≡ map (λ k. l.design.nets + k) (below l.r)
