use Rattle.std.proofs.Common.{◌≡◌, flat_map}
use Rattle.query_model.specs.Keys.{below}
use Rattle.query_model.specs.Formula.{alternatives_at}
use Rattle.frame_unroll.proofs.conditions.alternatives.Given as goal

abbrev pub invariant-loop-later : goal.invariant-loop-later
invariant-loop-later l = l.found ≡ flat_map (alternatives_at l.design l.claim l.toggle) (below l.later)
