use Rattle.std.proofs.Common.{length}
use Rattle.exception_expand.specs.Naming.{AreCellsFrom}
use Rattle.exception_expand.proofs.names.reg_cells.Given as goal

abbrev pub invariant-loop-k : goal.invariant-loop-k
invariant-loop-k l = AreCellsFrom l.linked.names.cells l.k (length l.linked.design.regs) l.row
