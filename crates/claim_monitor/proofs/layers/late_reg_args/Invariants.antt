use Rattle.std.proofs.Common.{◌≡◌, ℕ, ◌<◌, ◌≤◌, length}
use Rattle.std.specs.Prelude.{slice_index}
use Rattle.net_model.specs.Args.{arg_at}
use Rattle.net_model.specs.Layers.{pin_reads}
use Rattle.net_model.specs.declared.claims.PinRef.TheVariants.{RegIn}
use Rattle.claim_monitor.proofs.layers.late_reg_args.Given as goal

abbrev pub invariant-loop-i : goal.invariant-loop-i
invariant-loop-i l = record {
  pins : (j : ℕ) → j < l.i → arg_at l.args j ≡ pin_reads 0 l.sets l.rows (length l.sets) (RegIn l.r j) (slice_index l.ins j);
  rest : (j : ℕ) → l.i ≤ j → j < 7 → arg_at l.args j ≡ l.own;
}
