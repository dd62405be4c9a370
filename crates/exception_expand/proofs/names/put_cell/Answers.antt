use Rattle.std.proofs.Common.{arith, ◌≤◌, ◌<◌, ℕ, List, length, sym, subst}
use Rattle.std.specs.Prelude.{Option}
use Rattle.exception_expand.specs.Naming.{AreCellsFrom}
use Rattle.exception_expand.proofs.Naming.{cell_put, cell_left, no_reg, far_reg}
use Rattle.exception_expand.proofs.names.put_cell.Goals as goal

pub returns-then-reg-len : goal.returns-then-reg-len
returns-then-reg-len c =
    let cells = c.args.cells.now in
    let row = c.args.row.now in
    let low : c.in-Some.reg < length row = omega (arith, c.if-reg-len.true, c.len.ensures) in
    subst (λ (new : List (Option ℕ)). AreCellsFrom cells c.args.k (length row) new) (sym c.put.ensures)
    (cell_put cells c.args.k (length row) c.in-Some.reg c.item.result.now row c.item.ensures c.in-Some.is low c.requires.cells)

pub returns-else-reg-len : goal.returns-else-reg-len
returns-else-reg-len c =
    let row = c.args.row.now in
    let far : length row ≤ c.in-Some.reg = omega (arith, c.if-reg-len.false, c.len.ensures) in
    cell_left c.args.cells.now c.args.k (length row) c.item.result.now row c.item.ensures
    (far_reg (length row) c.in-Some.reg c.item.result.now c.in-Some.is far)
    c.requires.cells

pub returns-in-None : goal.returns-in-None
returns-in-None c =
    let row = c.args.row.now in
    cell_left c.args.cells.now c.args.k (length row) c.item.result.now row c.item.ensures (no_reg (length row) c.item.result.now c.in-None.is) c.requires.cells
