use Rattle.std.proofs.Common.{append-nil, sym, arith}
use Rattle.wave_signals.specs.Numbered.{numbered}
use Rattle.wave_signals.proofs.Adding.{numbered_added}
use Rattle.shown_runs.specs.Tables as spec
use Rattle.shown_runs.proofs.tables.push_cells.Goals as goal

pub loop-column-init : goal.loop-column-init
unfolding numbered
loop-column-init c = sym (append-nil c.args.text.now.items)

pub loop-column-preserved : goal.loop-column-preserved
loop-column-preserved c =
    numbered_added (spec.cell_text c.args.widths.now) 0 c.loop-column.column c.loop-column.column c.args.cells.now c.item-cell.result.now
    c.args.text.now.items c.loop-column.text.items c.push_cell.new.text.items c.item-cell.ensures (omega arith) c.loop-column.invariant
    c.in_ok-push_cell.ensures
