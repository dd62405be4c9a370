use Rattle.std.proofs.Common.{◌≡◌, ◌++◌, take}
use Rattle.query_model.specs.Formula.{all_chosen}
use Rattle.frame_unroll.proofs.violations.push_choices.Given as goal

abbrev pub invariant-loop-place : goal.invariant-loop-place
invariant-loop-place l = l.asked ≡ l.initial.asked ++ all_chosen l.design l.cycle (take l.place l.found)
