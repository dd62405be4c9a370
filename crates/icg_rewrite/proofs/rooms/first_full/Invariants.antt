use Rattle.std.proofs.Common.{◌<◌, ℕ}
use Rattle.icg_rewrite.specs.Faults.{IsFull}
use Rattle.icg_rewrite.proofs.rooms.first_full.Given as goal

abbrev pub invariant-loop-r : goal.invariant-loop-r
invariant-loop-r l = (q : ℕ) → q < l.r → ¬ IsFull l.gated q
