use Rattle.std.proofs.Common.{◌≡◌, ℕ, ◌<◌, false}
use Rattle.net_model.specs.Args.{arg_at}
use Rattle.net_model.specs.Layers.{layer_pins}
use Rattle.net_model.proofs.layers.layer_args.Given as goal

abbrev pub invariant-loop-i : goal.invariant-loop-i
invariant-loop-i g l = (j : ℕ) → j < l.i → arg_at l.args j ≡ layer_pins (g.V.Value.bit_value false) l.sets l.rows l.layer l.gate l.ins j
