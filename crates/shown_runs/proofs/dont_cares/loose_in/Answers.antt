use Rattle.std.proofs.Common.{sym, arith}
use Rattle.std.proofs.lemmas.List.FromFn.{map-range_with_len_more}
use Rattle.shown_runs.specs.DontCares.{is_loose}
use Rattle.shown_runs.proofs.dont_cares.loose_in.Goals as goal

pub loop-input-preserved : goal.loop-input-preserved
loop-input-preserved c =
    rw (c.in_ok-push.ensures.ok, c.loop-input.invariant, c.is_loose.ensures)
    (sym (map-range_with_len_more (is_loose c.args.design.now c.args.free.now c.args.cycle) 0 c.loop-input.input c.loop-input.input (omega arith)))
