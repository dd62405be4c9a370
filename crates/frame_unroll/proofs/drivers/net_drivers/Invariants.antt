use Rattle.std.proofs.Common.{◌≡◌, ◌-◌, ℕ, length, drop}
use Rattle.frame_unroll.specs.Drivers.{driver_at}
use Rattle.frame_unroll.proofs.Driving.{driver_from}
use Rattle.frame_unroll.proofs.drivers.net_drivers.Given as goal

abbrev pub invariant-loop-i : goal.invariant-loop-i
invariant-loop-i l = record {
  len : length l.drivers ≡ l.design.nets;
  shown : (n : ℕ) → driver_at l.drivers n ≡ driver_from (drop (l.count - l.i) l.design.regs) (l.count - l.i) n;
}
