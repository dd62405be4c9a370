use Rattle.std.proofs.Common.{sym, arith}
use Rattle.std.proofs.lemmas.List.FromFn.{map-range_with_len_more}
use Rattle.std.specs.Fmt.{decimal}
use Rattle.shown_runs.proofs.rows.number_cells.Goals as goal

pub loop-cycle-preserved : goal.loop-cycle-preserved
loop-cycle-preserved c =
    rw (c.in_ok-push.ensures.ok, c.loop-cycle.invariant, c.name_of.ensures, c.in_ok-number_text.ensures)
    (sym (map-range_with_len_more decimal 0 c.loop-cycle.cycle c.loop-cycle.cycle (omega arith)))
