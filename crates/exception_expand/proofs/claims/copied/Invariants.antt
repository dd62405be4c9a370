use Rattle.std.proofs.Common.{◌≡◌, take}
use Rattle.exception_expand.proofs.claims.copied.Given as goal

abbrev pub invariant-loop-k : goal.invariant-loop-k
invariant-loop-k l = l.copies ≡ take l.k l.sets
