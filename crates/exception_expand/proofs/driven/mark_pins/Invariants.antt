use Rattle.std.proofs.Common.{◌≡◌, ℕ, ◌<◌, length, take}
use Rattle.std.specs.Prelude.{◌||◌}
use Rattle.exception_expand.specs.Points.{has_mark, drives}
use Rattle.exception_expand.proofs.driven.mark_pins.Given as goal

abbrev pub invariant-loop-k : goal.invariant-loop-k
invariant-loop-k l = record {
  len : length l.marks ≡ length l.fn.marks;
  marked : (i : ℕ) → i < length l.fn.marks → has_mark l.marks i ≡ (has_mark l.fn.marks i || drives i (take l.k l.pins));
}
