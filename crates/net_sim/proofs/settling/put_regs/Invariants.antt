use Rattle.std.proofs.Common.{◌≡◌, ℕ, ◌<◌, length, Some}
use Rattle.std.specs.Prelude.{All, Contains, slice_get}
use Rattle.net_model.specs.Cycles.{bit_at, shown}
use Rattle.net_model.specs.declared.netlist.RegOut.{RegOut}
use Rattle.net_model.specs.declared.netlist.Reg.{Reg}
use Rattle.net_sim.proofs.settling.put_regs.Given as goal

abbrev pub invariant-loop-r : goal.invariant-loop-r
invariant-loop-r l = record {
  len : length l.nets ≡ l.design.nets;
  kept : (n : ℕ) → Contains l.design.inputs n → bit_at l.nets n ≡ bit_at l.initial.nets n;
  shown : (q : ℕ) → q < l.r → (reg : Reg) → slice_get l.design.regs q ≡ Some reg → All
      (λ (o : RegOut). bit_at l.nets o.net ≡ shown o (bit_at l.bits q)) reg.outs;
}
