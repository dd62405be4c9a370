use Rattle.std.proofs.Common.{◌≡◌, ℕ, ◌<◌}
use Rattle.std.specs.Prelude.{slice_index}
use Rattle.net_model.specs.Layers.{net_at}
use Rattle.net_model.specs.RowChanges.{ChangesRow}
use Rattle.net_model.specs.declared.terns.Tern.TheVariants.{Zero}
use Rattle.firm_runs.specs.Cycles3.{tern_at}
use Rattle.firm_runs.proofs.settling.put_inputs.Given as goal

abbrev pub invariant-loop-i : goal.invariant-loop-i
invariant-loop-i l = record {
  kept : ChangesRow 0 l.initial.rows l.rows;
  shown : (j : ℕ) → j < l.i → net_at Zero l.rows 0 (slice_index l.design.inputs j) ≡ tern_at l.ins j;
}
