use Rattle.std.proofs.Common.{◌≡◌, take}
use Rattle.icg_rewrite.specs.Rewritten.{gated_regs}
use Rattle.icg_rewrite.proofs.registers.gated_regs.Given as goal

abbrev pub invariant-loop-r : goal.invariant-loop-r
invariant-loop-r l = l.regs ≡ gated_regs l.gated.design.nets (take l.r l.gated.design.regs) (take l.r l.gated.of)
