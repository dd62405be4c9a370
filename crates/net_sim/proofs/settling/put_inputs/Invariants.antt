use Rattle.net_model.proofs.Sources.{InputsDone}
use Rattle.net_sim.proofs.settling.put_inputs.Given as goal

abbrev pub invariant-loop-i : goal.invariant-loop-i
invariant-loop-i l = InputsDone l.design l.ins l.nets l.i
