use Rattle.claim_monitor.proofs.HistoryLits.{latches_next}
use Rattle.claim_monitor.proofs.histories.push_latches.Goals as goal

pub loop-k-preserved : goal.loop-k-preserved
loop-k-preserved c =
    latches_next c.args.is_any c.args.nexts.now c.loop-k.k c.at-next.result c.args.latches.now c.loop-k.latches c.push.new.self c.at-next.ensures
    c.loop-k.invariant c.in_ok-push.ensures.ok
