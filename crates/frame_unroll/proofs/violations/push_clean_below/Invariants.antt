use Rattle.std.proofs.Common.{◌≡◌, ◌++◌, ◌+◌, flat_map}
use Rattle.query_model.specs.Keys.{below}
use Rattle.query_model.specs.Formula.{clean_clauses}
use Rattle.frame_unroll.proofs.violations.push_clean_below.Given as goal

abbrev pub invariant-loop-offset : goal.invariant-loop-offset
invariant-loop-offset l = l.asked ≡ l.initial.asked ++ flat_map (λ o. clean_clauses l.design l.claim (l.live + 1 + o)) (below l.offset)
