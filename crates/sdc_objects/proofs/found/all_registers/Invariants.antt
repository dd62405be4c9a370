use Rattle.std.proofs.Common.{◌≡◌, take}
use Rattle.linked_types.specs.declared.names.CellName.{CellName}
use Rattle.sdcv_base.specs.Seqs.{each_at}
use Rattle.sdc_objects.specs.Things.{cell_of_reg}
use Rattle.sdc_objects.proofs.found.all_registers.Given as goal

abbrev pub invariant-loop-place : goal.invariant-loop-place
invariant-loop-place l = l.found ≡ each_at (λ k (c : CellName). cell_of_reg k c.reg) 0 (take l.place l.cells)
