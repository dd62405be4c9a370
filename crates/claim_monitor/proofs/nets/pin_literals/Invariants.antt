use Rattle.std.proofs.Common.{◌≡◌, ℕ, ◌<◌, ◌≤◌}
use Rattle.std.specs.Prelude.{slice_index}
use Rattle.net_model.specs.Args.{arg_at}
use Rattle.claim_monitor.proofs.nets.pin_literals.Given as goal

abbrev pub invariant-loop-i : goal.invariant-loop-i
invariant-loop-i l = record {
  pins : (j : ℕ) → j < l.i → arg_at l.args j ≡ slice_index l.nets (slice_index l.ins j);
  rest : (j : ℕ) → l.i ≤ j → j < 7 → arg_at l.args j ≡ 0;
}
