use Rattle.claim_monitor.proofs.NetLits.{GateNetsDone}
use Rattle.claim_monitor.proofs.nets.settle.Given as goal

abbrev pub invariant-loop-k : goal.invariant-loop-k
invariant-loop-k l = GateNetsDone l.design l.initial.graph l.initial.nets l.graph l.nets l.k
