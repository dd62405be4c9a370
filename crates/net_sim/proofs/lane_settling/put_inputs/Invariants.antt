use Rattle.net_sim.proofs.LaneSettling.{InputLanesDone}
use Rattle.net_sim.proofs.lane_settling.put_inputs.Given as goal

abbrev pub invariant-loop-input : goal.invariant-loop-input
invariant-loop-input l = InputLanesDone l.design l.ins l.nets l.input
