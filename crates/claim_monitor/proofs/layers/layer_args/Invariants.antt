use Rattle.std.proofs.Common.{◌≡◌, ℕ, ◌<◌, ◌≤◌}
use Rattle.net_model.specs.Args.{arg_at}
use Rattle.net_model.specs.Layers.{layer_pins}
use Rattle.claim_monitor.proofs.layers.layer_args.Given as goal

abbrev pub invariant-loop-i : goal.invariant-loop-i
invariant-loop-i l = record {
  pins : (j : ℕ) → j < l.i → arg_at l.args j ≡ layer_pins 0 l.sets l.rows l.layer l.gate l.ins j;
  rest : (j : ℕ) → l.i ≤ j → j < 7 → arg_at l.args j ≡ 0;
}
