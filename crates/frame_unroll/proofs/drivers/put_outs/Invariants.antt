use Rattle.std.proofs.Common.{◌≡◌, ◌-◌, ℕ, length, drop}
use Rattle.query_model.specs.Reads.{shown_in}
use Rattle.frame_unroll.specs.Drivers.{driver_at, shown_or}
use Rattle.frame_unroll.proofs.drivers.put_outs.Given as goal

abbrev pub invariant-loop-i : goal.invariant-loop-i
invariant-loop-i l = record {
  len : length l.drivers ≡ length l.initial.drivers;
  shown : (n : ℕ) → driver_at l.drivers n ≡ shown_or (driver_at l.initial.drivers n) l.reg (shown_in (drop (l.count - l.i) l.outs) n);
}
