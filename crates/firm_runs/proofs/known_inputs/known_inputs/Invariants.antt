use Rattle.std.proofs.Common.{◌≡◌, ℕ, ◌<◌, length}
use Rattle.net_model.specs.Cycles.{bit_at}
use Rattle.firm_runs.specs.Frees.{known_bit}
use Rattle.firm_runs.specs.Cycles3.{tern_at}
use Rattle.firm_runs.proofs.known_inputs.known_inputs.Given as goal

abbrev pub invariant-loop-input : goal.invariant-loop-input
invariant-loop-input l = record {
  count : length l.known ≡ l.input;
  each : (i : ℕ) → i < l.input → tern_at l.known i ≡ known_bit l.design l.free l.t i (bit_at l.ins i);
}
