use Rattle.std.proofs.Common.{◌≡◌, ◌++◌, take}
use Rattle.case_inputs.proofs.inputs.with_fixed.Given as goal

abbrev pub invariant-loop-k : goal.invariant-loop-k
invariant-loop-k l = l.list ≡ l.fixed ++ take l.k l.more
