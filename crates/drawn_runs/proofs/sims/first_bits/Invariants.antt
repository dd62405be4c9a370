use Rattle.std.proofs.Common.{◌≡◌, ℕ, ◌<◌, length}
use Rattle.net_model.specs.Cycles.{bit_at}
use Rattle.net_model.specs.LaneBits.{lane, lane_row}
use Rattle.drawn_runs.specs.Draws.{after, word}
use Rattle.drawn_runs.proofs.sims.first_bits.Given as goal

abbrev pub invariant-draws : goal.invariant-draws
invariant-draws l = record {
  count : length l.bits ≡ l.counter;
  next : l.rng ≡ after l.counter;
  each : (i : ℕ) → i < 64 → (r : ℕ) → r < l.counter → bit_at (lane_row i l.bits) r ≡ lane (word r) i;
}
