use Rattle.net_model.specs.Cycles.{reg_capture}
use Rattle.frame_unroll.specs.Counted.{capture_places}
use Rattle.cnf_encode.proofs.CellTables.{HaveCells}
use Rattle.cnf_encode.proofs.cells.reg_cells.Given as goal

abbrev pub invariant-loop-r : goal.invariant-loop-r
invariant-loop-r l = HaveCells reg_capture capture_places l.design.regs l.fn.list l.list l.found l.r
