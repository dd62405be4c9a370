use Rattle.std.proofs.Common.{◌≡◌, Some, take}
use Rattle.texts.specs.Reads.{each}
use Rattle.cell_lib.specs.Combs.{comb_out}
use Rattle.cell_lib.proofs.combs.comb_outs.Given as goal

abbrev pub invariant-loop-out : goal.invariant-loop-out
invariant-loop-out l = each (comb_out l.inputs) (take l.out-index l.outs) ≡ Some l.found
