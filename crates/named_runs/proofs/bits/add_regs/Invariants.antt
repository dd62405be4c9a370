use Rattle.std.proofs.Common.{◌≡◌, ◌++◌, take}
use Rattle.named_runs.specs.NamedBits as spec
use Rattle.named_runs.proofs.bits.add_regs.Given as goal

abbrev pub invariant-loop-cell : goal.invariant-loop-cell
invariant-loop-cell l = l.bits.items ≡ l.fn.bits.items ++ spec.reg_bits (take l.cell-index l.cells) l.run
