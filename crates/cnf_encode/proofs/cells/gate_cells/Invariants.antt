use Rattle.std.proofs.Common.{length}
use Rattle.net_model.specs.Form.{value}
use Rattle.net_model.specs.declared.netlist.Gate.{Gate}
use Rattle.cnf_encode.proofs.CellTables.{HaveCells}
use Rattle.cnf_encode.proofs.cells.gate_cells.Given as goal

abbrev pub invariant-loop-k : goal.invariant-loop-k
invariant-loop-k l = HaveCells (λ (g : Gate). value g.func) (λ (g : Gate). length g.ins) l.design.gates l.fn.list l.list l.found l.k
