use Rattle.std.proofs.Common.{◌≡◌, ℕ, ◌≤◌, length}
use Rattle.net_model.specs.Layers.{row_at, AreLayersTo}
use Rattle.net_model.specs.Pins.{late_value}
use Rattle.net_model.specs.Splitting.{tern_value}
use Rattle.net_model.specs.declared.terns.Tern.TheVariants.{Zero}
use Rattle.firm_runs.proofs.late_starts.make_layers3.Given as goal

abbrev pub invariant-loop-l : goal.invariant-loop-l
invariant-loop-l l = record {
  count : length l.rows ≡ length l.fn.rows;
  lens : (m : ℕ) → m ≤ length l.sets → length (row_at l.rows m) ≡ l.design.nets;
  layers : AreLayersTo tern_value Zero l.design l.claim.start l.sets (late_value l.fn.value l.fn.inverted) l.base l.rows l.l;
}
