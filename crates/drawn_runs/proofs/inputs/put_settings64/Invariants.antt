use Rattle.std.proofs.Common.{◌≡◌, ℕ, ◌<◌, length}
use Rattle.net_model.specs.LaneBits.{lane_row}
use Rattle.net_sim.proofs.SettingsPut.{SettingsDone}
use Rattle.drawn_runs.proofs.inputs.put_settings64.Given as goal

abbrev pub invariant-loop-k : goal.invariant-loop-k
invariant-loop-k l = record {
  len : length l.ins ≡ length l.initial.ins;
  lanes : (i : ℕ) → i < 64 → SettingsDone l.settings l.active (lane_row i l.initial.ins) (lane_row i l.ins) l.k;
}
