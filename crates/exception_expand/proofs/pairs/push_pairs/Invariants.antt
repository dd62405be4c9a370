use Rattle.std.proofs.Common.{◌≡◌, ◌++◌, take, map}
use Rattle.exception_expand.specs.Pairs.{pair}
use Rattle.exception_expand.proofs.pairs.push_pairs.Given as goal

abbrev pub invariant-loop-k : goal.invariant-loop-k
invariant-loop-k l = l.pairs ≡ l.fn.pairs ++ map (pair l.start) (take l.k l.ends)
