use Rattle.std.proofs.Common.{◌≡◌, ℕ, ◌<◌, false}
use Rattle.net_model.specs.Args.{arg_at}
use Rattle.net_model.specs.Rows.{pins_of}
use Rattle.net_model.proofs.rows.pin_args.Given as goal

abbrev pub invariant-loop-i : goal.invariant-loop-i
invariant-loop-i g l = (j : ℕ) → j < l.i → arg_at l.args j ≡ pins_of (g.V.Value.bit_value false) l.ins l.nets j
