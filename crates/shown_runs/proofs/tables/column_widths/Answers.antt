use Rattle.std.proofs.Common.{sym, arith}
use Rattle.std.proofs.lemmas.List.FromFn.{map-range_with_len_more}
use Rattle.shown_runs.specs.Tables as spec
use Rattle.shown_runs.proofs.tables.column_widths.Goals as goal

pub loop-column-preserved : goal.loop-column-preserved
loop-column-preserved c =
    rw (c.in_ok-push.ensures.ok, c.loop-column.invariant, c.column_width.ensures)
    (sym (map-range_with_len_more (spec.column_width c.args.rows.now) 0 c.loop-column.column c.loop-column.column (omega arith)))
