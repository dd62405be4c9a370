use Rattle.std.proofs.Common.{◌≡◌, length}
use Rattle.net_model.specs.Cycles.{capture}
use Rattle.net_model.specs.declared.claims.End.TheVariants.{Reg}
use Rattle.net_model.proofs.RegCaptures.{BitsNext}
use Rattle.net_sim.proofs.captures.step.Given as goal

abbrev pub invariant-loop-r : goal.invariant-loop-r
invariant-loop-r l = record {
  len : length l.to.bits ≡ length l.design.regs;
  ins : l.to.ins ≡ l.initial.to.ins;
  nets : l.to.nets ≡ l.initial.to.nets;
  bits : BitsNext (λ q. capture l.design (Reg q) l.from) l.to.bits l.r;
}
