use Rattle.std.proofs.Common.{length}
use Rattle.net_model.specs.Form.{value}
use Rattle.cnf_encode.proofs.CellTables.{HasCell-grown}
use Rattle.cnf_encode.proofs.cells.Cells.of.Goals as goal

pub returns-clause-cells : goal.returns-clause-cells
returns-clause-cells c =
    record {
      gates = λ k g at. HasCell-grown c.gate_cells.new.list c.reg_cells.new.list c.in_ok-gates.gates k (value g.func) (length g.ins)
          c.in_ok-regs.ensures.grown (c.in_ok-gates.ensures.cells k g at);
      regs = c.in_ok-regs.ensures.cells;
    }
