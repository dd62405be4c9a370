use Rattle.std.proofs.Common.{◌≡◌, ℕ, ◌<◌}
use Rattle.net_model.specs.Args.{arg_at}
use Rattle.net_model.specs.Layers.{layer_pins}
use Rattle.net_model.specs.declared.terns.Tern.TheVariants.{Zero}
use Rattle.firm_runs.proofs.layers.layer_args.Given as goal

abbrev pub invariant-loop-i : goal.invariant-loop-i
invariant-loop-i l = (j : ℕ) → j < l.i → arg_at l.args j ≡ layer_pins Zero l.sets l.rows l.layer l.gate l.ins j
