use Rattle.std.proofs.Common.{◌≡◌, ◌++◌, take}
use Rattle.query_model.specs.Formula.{chosen_clauses}
use Rattle.frame_unroll.proofs.violations.push_chosen.Given as goal

abbrev pub invariant-loop-condition : goal.invariant-loop-condition
invariant-loop-condition l = l.asked ≡ l.initial.asked ++ chosen_clauses l.design l.cycle l.place (take l.condition-index l.conditions)
