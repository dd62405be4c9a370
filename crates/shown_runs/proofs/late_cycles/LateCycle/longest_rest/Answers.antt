use Rattle.std.proofs.Common.{◌-◌}
use Rattle.shown_runs.proofs.Rests.{rest_more}
use Rattle.shown_runs.proofs.late_cycles.LateCycle.longest_rest.Goals as goal

pub loop-k-preserved-then-gate-source : goal.loop-k-preserved-then-gate-source
loop-k-preserved-then-gate-source c =
    rw c.in_ok-push-2.ensures.items
    (rest_more c.args.self.now (c.loop-k.k - 1) c.item-gate.result.now c.loop-k.source c.in-Some-first_source.before c.loop-k.nets.items c.item-gate.ensures
    c.if-gate-source.true c.loop-k.invariant c.in-Some-first_source.ensures)
