use Rattle.std.proofs.Common.{◌≡◌, ℕ, ◌<◌, ◌≤◌, length, map, false}
use Rattle.net_model.specs.Layers.{row_at, AreLayersTo}
use Rattle.net_model.specs.Pins.{late_value}
use Rattle.net_model.proofs.late_starts.make_layers.Given as goal

abbrev pub invariant-loop-l : goal.invariant-loop-l
invariant-loop-l g l = record {
  count : length l.rows ≡ length l.fn.rows;
  lens : (m : ℕ) → m ≤ length l.sets → length (row_at l.rows m) ≡ l.design.nets;
  above : (m : ℕ) → length l.sets < m → row_at l.rows m ≡ row_at l.fn.rows m;
  layers : AreLayersTo g.V.Value.applied (g.V.Value.bit_value false) l.design l.claim.start l.sets (late_value l.fn.value l.fn.inverted)
      (map g.V.Value.bit_value l.base) l.rows l.l;
}
