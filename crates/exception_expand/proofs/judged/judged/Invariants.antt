use Rattle.std.proofs.Common.{◌≡◌, take}
use Rattle.std.specs.Prelude.{count_by}
use Rattle.exception_expand.specs.Pairs.{is_judged}
use Rattle.exception_expand.proofs.judged.judged.Given as goal

abbrev pub invariant-loop-k : goal.invariant-loop-k
invariant-loop-k l = l.count ≡ count_by (is_judged l.design) (take l.k l.claims)
