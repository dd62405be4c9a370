use Rattle.net_model.specs.LaneBits.{lane}
use Rattle.drawn_runs.proofs.Stepping.{controlled_bits}
use Rattle.drawn_runs.proofs.lane_steps.controlled.Goals as goal

pub returns : goal.returns
returns c =
    λ i lt.
    let unclear = c.complement-unclear.ensures i lt in
    let chosen = c.either.ensures i lt in
    let set = c.both-set.ensures i lt in
    let follows = c.both-follows.ensures i lt in
    let last = c.either-2.ensures i lt in
    rw (last, set, follows, chosen, unclear)
    (controlled_bits (lane c.args.clear i) (lane c.args.preset i) (lane c.args.stated i) (lane c.args.next i))
