use Rattle.std.proofs.Common.{◌≡◌, ℕ, ◌<◌, length, slice_index}
use Rattle.sat_solver.proofs.marks.forget.Given as goal

-- the stamps so far are 0
abbrev pub invariant-loop-at : goal.invariant-loop-at
invariant-loop-at l = record {
  long : length l.stamps ≡ length l.initial.stamps;
  zero : (v : ℕ) → v < l.at → slice_index l.stamps v ≡ 0;
}
