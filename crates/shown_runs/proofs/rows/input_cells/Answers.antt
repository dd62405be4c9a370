use Rattle.std.proofs.Common.{sym, arith}
use Rattle.std.proofs.lemmas.List.FromFn.{map-range_with_len_more}
use Rattle.shown_runs.specs.Rows.{input_digits}
use Rattle.shown_runs.proofs.rows.input_cells.Goals as goal

pub loop-cycle-preserved : goal.loop-cycle-preserved
loop-cycle-preserved c =
    rw (c.in_ok-push.ensures.ok, c.loop-cycle.invariant, c.in_ok-input_cell.ensures)
    (sym (map-range_with_len_more (input_digits c.args.marks.now c.args.input c.args.signal.now) 0 c.loop-cycle.cycle c.loop-cycle.cycle (omega arith)))
