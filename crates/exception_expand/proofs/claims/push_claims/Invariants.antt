use Rattle.std.proofs.Common.{◌≡◌, ◌++◌, take, map}
use Rattle.exception_expand.specs.Pairs.{claim_for}
use Rattle.exception_expand.proofs.claims.push_claims.Given as goal

abbrev pub invariant-loop-k : goal.invariant-loop-k
invariant-loop-k l = l.claims ≡ l.fn.claims ++ map (claim_for l.terms.ports l.terms.kind l.terms.edge l.terms.judging l.terms.sets.now) (take l.k l.sides)
