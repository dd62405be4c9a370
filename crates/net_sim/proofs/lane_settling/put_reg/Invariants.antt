use Rattle.net_sim.proofs.LaneSettling.{RegLanesDone}
use Rattle.net_sim.proofs.lane_settling.put_reg.Given as goal

abbrev pub invariant-loop-o : goal.invariant-loop-o
invariant-loop-o l = RegLanesDone l.design l.r l.outs l.bits l.initial.nets l.nets l.o
