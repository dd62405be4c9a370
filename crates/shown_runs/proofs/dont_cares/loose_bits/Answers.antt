use Rattle.std.proofs.Common.{sym, arith}
use Rattle.std.proofs.lemmas.List.FromFn.{map-range_with_len_more}
use Rattle.shown_runs.specs.DontCares.{loose_in}
use Rattle.shown_runs.proofs.dont_cares.loose_bits.Goals as goal

pub loop-cycle-preserved : goal.loop-cycle-preserved
loop-cycle-preserved c =
    rw (c.in_ok-push.ensures.ok, c.loop-cycle.invariant, c.in_ok-loose_in.ensures)
    (sym (map-range_with_len_more (loose_in c.args.design.now c.args.free.now) 0 c.loop-cycle.cycle c.loop-cycle.cycle (omega arith)))
