use Rattle.std.proofs.Common.{◌≡◌, ℕ, ◌<◌, ◌≤◌, false}
use Rattle.net_model.specs.Args.{arg_at}
use Rattle.net_model.specs.Layers.{late_reg_pins}
use Rattle.net_model.proofs.layers.late_reg_args.Given as goal

abbrev pub invariant-loop-i : goal.invariant-loop-i
invariant-loop-i g l = record {
  done : (j : ℕ) → j < l.i → arg_at l.args j ≡ late_reg_pins (g.V.Value.bit_value false) l.sets l.rows l.r l.reg l.fn.own j;
  rest : (j : ℕ) → l.i ≤ j → j < 7 → arg_at l.args j ≡ l.fn.own;
}
