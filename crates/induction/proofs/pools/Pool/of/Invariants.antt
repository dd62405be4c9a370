use Rattle.induction.specs.Pools.{IsPoolAfter}
use Rattle.induction.proofs.pools.Pool.of.Given as goal

abbrev pub invariant-loop-place : goal.invariant-loop-place
invariant-loop-place l = IsPoolAfter l.design l.depth l.budget l.candidates l.place l.pool
