use Rattle.net_model.proofs.Sources.{RegDone}
use Rattle.net_sim.proofs.settling.put_reg.Given as goal

abbrev pub invariant-loop-o : goal.invariant-loop-o
invariant-loop-o l = RegDone l.design l.r l.outs l.bit l.initial.nets l.nets l.o
