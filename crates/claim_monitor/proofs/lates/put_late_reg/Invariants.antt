use Rattle.claim_monitor.proofs.LateLits.{LateRegDone}
use Rattle.claim_monitor.proofs.lates.put_late_reg.Given as goal

abbrev pub invariant-loop-o : goal.invariant-loop-o
invariant-loop-o l = LateRegDone l.design l.outs l.literal l.initial.rows l.rows l.o
