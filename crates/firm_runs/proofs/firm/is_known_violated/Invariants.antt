use Rattle.std.proofs.Common.{ℕ, ◌<◌}
use Rattle.firm_runs.proofs.Deciding3.{IsBadAt3}
use Rattle.firm_runs.proofs.firm.is_known_violated.Given as goal

abbrev pub invariant-loop-r : goal.invariant-loop-r
invariant-loop-r l = (q : ℕ) → q < l.r → ¬ IsBadAt3 l.design l.claim l.run l.t l.stale q
