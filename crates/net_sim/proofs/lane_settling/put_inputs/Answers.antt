use Rattle.net_sim.proofs.LaneSettling.{input_lanes_more}
use Rattle.net_sim.proofs.lane_settling.put_inputs.Goals as goal

pub loop-input-preserved : goal.loop-input-preserved
loop-input-preserved c =
    rw c.put.ensures (input_lanes_more c.args.design.now c.args.ins.now c.loop-input.nets c.loop-input.input c.at-net.result c.at-lanes.result
    c.requires.sound c.at-net.ensures c.at-lanes.ensures c.loop-input.invariant)
