use Rattle.std.proofs.Common.{◌≡◌, ℕ, ◌<◌, length, Some}
use Rattle.std.specs.Prelude.{slice_get}
use Rattle.net_model.specs.Cycles.{bit_at}
use Rattle.net_model.specs.LaneBits.{lane_row}
use Rattle.net_model.specs.declared.netlist.Reg.{Reg}
use Rattle.net_sim.specs.LaneRows.{IsBitShown, AreKept}
use Rattle.net_sim.proofs.lane_settling.put_regs.Given as goal

abbrev pub invariant-loop-r : goal.invariant-loop-r
invariant-loop-r l = record {
  len : length l.nets ≡ l.design.nets;
  kept : (i : ℕ) → i < 64 → AreKept i l.design.inputs l.initial.nets l.nets;
  shown : (i : ℕ) → i < 64 → (q : ℕ) → q < l.r → (reg : Reg) → slice_get l.design.regs q ≡ Some reg → IsBitShown i reg (bit_at (lane_row i l.bits) q) l.nets;
}
