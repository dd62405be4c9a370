use Rattle.std.proofs.Common.{arith}
use Rattle.net_model.specs.Cycles.{reg_capture}
use Rattle.frame_unroll.specs.Counted.{capture_places}
use Rattle.cnf_encode.proofs.CellTables.{cells_more, cells_all}
use Rattle.cnf_encode.proofs.Captures.{reg_in_range}
use Rattle.cnf_encode.proofs.cells.reg_cells.Goals as goal

pub reg_cell-requires : goal.reg_cell-requires
reg_cell-requires c =
    let range = reg_in_range c.args.design.now c.loop-r.r c.item.result.now c.requires.sound c.item.ensures in
    record { few = range.few; over = record { next = range.next; clear = range.clear; preset = range.preset } }

pub loop-r-preserved : goal.loop-r-preserved
loop-r-preserved c =
    cells_more reg_capture capture_places c.args.design.now.regs c.args.list.now c.loop-r.list c.reg_cell.new.list c.loop-r.found c.push.new.self c.loop-r.r
    c.in_ok-reg_cell.field-0 c.item.result.now c.loop-r.invariant c.item.ensures c.in_ok-reg_cell.ensures.grown c.in_ok-reg_cell.ensures.is
    c.in_ok-push.ensures.ok

pub returns-clause-cells : goal.returns-clause-cells
returns-clause-cells c =
    cells_all reg_capture capture_places c.args.design.now.regs c.args.list.now c.loop-r.list c.loop-r.found c.loop-r.r c.loop-r.invariant (omega arith)
