use Rattle.std.proofs.Common.{◌≡◌, ℕ, ◌<◌, length}
use Rattle.net_model.specs.Cycles.{bit_at}
use Rattle.net_model.specs.Ternary.{tern_of}
use Rattle.firm_runs.specs.Cycles3.{tern_at}
use Rattle.firm_runs.proofs.runs.known_bits.Given as goal

abbrev pub invariant-loop-r : goal.invariant-loop-r
invariant-loop-r l = record {
  count : length l.bits ≡ l.r;
  each : (q : ℕ) → q < l.r → tern_at l.bits q ≡ tern_of (bit_at l.state q);
}
