use Rattle.std.proofs.Common.{◌≡◌, Some, take}
use Rattle.texts.specs.Reads.{each}
use Rattle.cell_lib.specs.Flops.{flop_out}
use Rattle.cell_lib.proofs.flops.flop_outs.Given as goal

abbrev pub invariant-loop-out : goal.invariant-loop-out
invariant-loop-out l = each (flop_out l.states) (take l.out-index l.outs) ≡ Some l.found
