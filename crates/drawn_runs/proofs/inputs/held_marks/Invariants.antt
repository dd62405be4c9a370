use Rattle.std.proofs.Common.{◌≡◌, ℕ, ◌<◌, length}
use Rattle.net_model.specs.Cycles.{bit_at}
use Rattle.net_model.specs.Held.{is_held}
use Rattle.drawn_runs.proofs.inputs.held_marks.Given as goal

abbrev pub invariant-loop-input : goal.invariant-loop-input
invariant-loop-input l = record {
  count : length l.marks ≡ l.input;
  each : (k : ℕ) → k < l.input → bit_at l.marks k ≡ is_held l.design k;
}
