-- The cubes of the functions of a design.
use Rattle.net_model.specs.declared.netlist.Design.{Design}
use Rattle.cnf_encode.specs.CellLists.{AreGateCells, AreRegCells}
use Rattle.cnf_encode.specs.declared.cells.Cells.{Cells}

-- those of its gates, and of what its registers capture
pub record AreCells (d : Design) (cells : Cells) : Type 0 where
  pub gates : AreGateCells d cells.list cells.gates
  pub regs : AreRegCells d cells.list cells.regs
