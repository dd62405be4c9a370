use Rattle.std.proofs.Common.{◌≡◌, take}
use Rattle.cell_lib.specs.Flops.{data_inputs}
use Rattle.cell_lib.proofs.flops.data_inputs.Given as goal

abbrev pub invariant-loop-name : goal.invariant-loop-name
invariant-loop-name l = l.table ≡ data_inputs l.clock (take l.name-index l.inputs)
