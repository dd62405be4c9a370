use Rattle.std.proofs.Common.{◌≡◌, ℕ, ◌<◌, List, length}
use Rattle.net_model.specs.Cycles.{bit_at, capture}
use Rattle.net_model.specs.LaneBits.{lane_row, lane_cycle}
use Rattle.net_model.specs.declared.claims.End.TheVariants.{Reg}
use Rattle.net_model.specs.declared.lane_words.Lanes.{Lanes}
use Rattle.drawn_runs.proofs.lane_steps.step64.Given as goal

abbrev pub invariant-loop-r : goal.invariant-loop-r
invariant-loop-r l = record {
  count : length l.next ≡ l.r;
  each : (i : ℕ) → i < 64 → (ins : List Lanes) (q : ℕ) → q < l.r → bit_at (lane_row i l.next) q ≡ capture l.design (Reg q) (lane_cycle i l.bits ins l.nets);
}
