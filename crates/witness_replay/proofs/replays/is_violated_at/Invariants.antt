use Rattle.std.proofs.Common.{ℕ, ◌<◌}
use Rattle.witness_replay.specs.Rooms.{AreRoomsFor}
use Rattle.witness_replay.proofs.Violations.{IsBadAt}
use Rattle.witness_replay.proofs.replays.is_violated_at.Given as goal

abbrev pub invariant-loop-r : goal.invariant-loop-r
invariant-loop-r l = record {
  rooms : AreRoomsFor l.design l.rooms;
  none : (q : ℕ) → q < l.r → ¬ IsBadAt l.design l.claim l.run l.t l.stale q;
}
