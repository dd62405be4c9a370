use Rattle.std.proofs.Common.{ℕ, ◌<◌}
use Rattle.net_model.specs.Judge.{IsViolatedAt}
use Rattle.witness_replay.specs.Rooms.{AreRoomsFor}
use Rattle.witness_replay.proofs.replays.first_violation.Given as goal

abbrev pub invariant-loop-t : goal.invariant-loop-t
invariant-loop-t l = record {
  rooms : AreRoomsFor l.design l.rooms;
  none : (u : ℕ) → u < l.t → ¬ IsViolatedAt l.design.reset_len l.design l.claim l.run u;
}
