use Rattle.std.proofs.Common.{◌≡◌, flat_map}
use Rattle.query_model.specs.Keys.{below}
use Rattle.query_model.specs.Formula.{kept_in}
use Rattle.frame_unroll.proofs.kept.kept_clauses.Given as goal

abbrev pub invariant-loop-cycle : goal.invariant-loop-cycle
invariant-loop-cycle l = l.asked ≡ flat_map (kept_in l.design l.inv) (below l.cycle)
