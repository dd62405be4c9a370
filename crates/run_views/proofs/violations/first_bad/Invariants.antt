use Rattle.std.proofs.Common.{ℕ, ◌<◌}
use Rattle.witness_replay.specs.Rooms.{AreRoomsFor}
use Rattle.run_views.specs.Violations.{IsBadAfter}
use Rattle.run_views.proofs.violations.first_bad.Given as goal

abbrev pub invariant-loop-r : goal.invariant-loop-r
invariant-loop-r l = record {
  rooms : AreRoomsFor l.design l.rooms;
  none : (q : ℕ) → q < l.r → ¬ IsBadAfter l.design l.claim l.run l.toggle q;
}
