use Rattle.std.proofs.Common.{◌≡◌, length}
use Rattle.drawn_runs.proofs.pulls.pulled_bits.Given as goal

abbrev pub invariant-rounds : goal.invariant-rounds
invariant-rounds l = length l.bits ≡ l.count
