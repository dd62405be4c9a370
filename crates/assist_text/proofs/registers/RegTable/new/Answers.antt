use Rattle.std.proofs.Common.{List, take, sym, subst, arith}
use Rattle.std.proofs.lemmas.List.{take_all}
use Rattle.linked_types.specs.declared.names.CellName.{CellName}
use Rattle.assist_text.specs.Registers.{IsTable}
use Rattle.assist_text.proofs.Zips.{take_read}
use Rattle.assist_text.proofs.registers.RegTable.new.Goals as goal

pub loop-cell-preserved : goal.loop-cell-preserved
loop-cell-preserved c =
    let cells = c.args.cells.now in
    let k = c.loop-cell.cell-index in
    subst (λ (cs : List CellName). IsTable cs c.add.new.self) (sym (take_read cells k c.cell-item.result (omega arith) c.cell-item.is))
    (c.in_ok-add.ensures (take k cells) c.loop-cell.invariant)

pub returns : goal.returns
returns c =
    subst (λ (cs : List CellName). IsTable cs c.loop-cell.table) (take_all c.loop-cell.cell-index c.args.cells.now (omega arith)) c.loop-cell.invariant
