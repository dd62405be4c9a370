use Rattle.claim_monitor.proofs.Watching.{Monitor, monitor_watches}
use Rattle.claim_monitor.proofs.laws.monitor_watches.Goals as goal

pub returns : goal.returns
returns c =
    λ g ls row l a is made run any ins t of_run bits within.
    let m : Monitor c.args.design.now c.args.claim.now a =
    record { graph = g; literals = ls; nexts = row; bad = l; sound = c.requires.sound; is = is; made = made } in
    monitor_watches c.args.design.now c.args.claim.now a run any ins t c.requires.fits c.requires.plain m (record { is = of_run; bits = bits }) within
