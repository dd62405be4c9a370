use Rattle.std.proofs.Common.{◌≡◌, take}
use Rattle.query_model.specs.Formula.{some_chosen}
use Rattle.frame_unroll.proofs.violations.some_choice.Given as goal

abbrev pub invariant-loop-place : goal.invariant-loop-place
invariant-loop-place l = l.clause ≡ some_chosen l.design l.cycle (take l.place l.found)
