use Rattle.std.proofs.Common.{◌≡◌, ◌++◌, take}
use Rattle.query_model.specs.Formula.{kept_in}
use Rattle.frame_unroll.proofs.kept.push_kept_in.Given as goal

abbrev pub invariant-loop-clause : goal.invariant-loop-clause
invariant-loop-clause l = l.asked ≡ l.initial.asked ++ kept_in l.design (take l.clause-index l.inv) l.cycle
