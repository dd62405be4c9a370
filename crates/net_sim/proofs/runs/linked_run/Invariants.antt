use Rattle.net_sim.proofs.Running.{RunSoFar}
use Rattle.net_sim.proofs.runs.linked_run.Given as goal

abbrev pub invariant-loop-t : goal.invariant-loop-t
invariant-loop-t l = RunSoFar l.design l.stimulus l.run l.bits l.t
