use Rattle.std.proofs.Common.{◌≡◌, ◌∷◌, map, take}
use Rattle.query_model.specs.Keys.{opposite}
use Rattle.frame_unroll.proofs.violations.unless.Given as goal

abbrev pub invariant-loop-condition : goal.invariant-loop-condition
invariant-loop-condition l = l.clause ≡ l.fn.lit ∷ map opposite (take l.condition-index l.conditions)
