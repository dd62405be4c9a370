use Rattle.std.proofs.Common.{arith, ◌<◌}
use Rattle.net_model.proofs.Settling.{All-at}
use Rattle.claim_monitor.proofs.LateLits.{late_input}
use Rattle.claim_monitor.proofs.lates.put_late_input.Goals as goal

pub returns-clause-late : goal.returns-clause-late
returns-clause-late c =
    λ g of.
    let d = c.args.design.now in
    let low = All-at (λ n. n < d.nets) d.inputs c.args.i c.at-net.result c.at-net.ensures c.requires.sound.in_range.inputs in
    rw c.put_in.ensures (late_input g d c.args.i c.at-net.result c.args.literal c.args.rows.now c.at-net.ensures c.requires.rows
    (omega (arith, c.requires.len)) of)
