use Rattle.std.proofs.Common.{◌≡◌, ℕ, length}
use Rattle.drawn_runs.specs.Draws.{after}
use Rattle.drawn_runs.specs.Inputs.{AreDrawnTo}
use Rattle.drawn_runs.proofs.inputs.put_free.Given as goal

abbrev pub invariant-loop-input : goal.invariant-loop-input
invariant-loop-input l = record {
  len : length l.ins ≡ length l.design.inputs;
  drawn : (base : ℕ) → l.initial.rng ≡ after base → AreDrawnTo l.design base l.ins l.input l.rng;
}
