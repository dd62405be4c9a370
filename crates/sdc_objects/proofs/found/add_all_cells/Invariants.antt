use Rattle.std.proofs.Common.{◌≡◌, ◌++◌, take}
use Rattle.sdcv_base.specs.Seqs.{each_at}
use Rattle.sdc_objects.specs.Things.{cell_named}
use Rattle.sdc_objects.proofs.found.add_all_cells.Given as goal

abbrev pub invariant-loop-place : goal.invariant-loop-place
invariant-loop-place l = l.found ≡ l.fn.found ++ each_at (cell_named l.query) 0 (take l.place l.cells)
