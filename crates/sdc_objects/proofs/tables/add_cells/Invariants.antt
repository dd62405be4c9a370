use Rattle.std.proofs.Common.{take}
use Rattle.glob.specs.Indexes.{IsIndexOf}
use Rattle.sdc_objects.specs.Tables.{cell_names}
use Rattle.sdc_objects.proofs.tables.add_cells.Given as goal

abbrev pub invariant-loop-k : goal.invariant-loop-k
invariant-loop-k l = IsIndexOf (cell_names (take l.k l.cells)) l.index
