use Rattle.std.proofs.Common.{◌≡◌, ◌≢◌, ◌<◌, ℕ, Some, slice_get}
use Rattle.inv_candidates.proofs.levels.has.Given as goal

abbrev pub invariant-loop-k : goal.invariant-loop-k
invariant-loop-k l = (j x : ℕ) → j < l.k → slice_get l.regs j ≡ Some x → x ≢ l.reg
