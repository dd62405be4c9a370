use Rattle.claim_monitor.proofs.NetLits.{RegNetsDone}
use Rattle.claim_monitor.proofs.nets.put_reg.Given as goal

abbrev pub invariant-loop-o : goal.invariant-loop-o
invariant-loop-o l = RegNetsDone l.design l.r l.outs l.bit l.initial.nets l.nets l.o
