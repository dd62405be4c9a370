use Rattle.net_model.proofs.Driving.{GatesMarked}
use Rattle.net_model.proofs.drivers.mark_gates.Given as goal

abbrev pub invariant-loop-k : goal.invariant-loop-k
invariant-loop-k l = GatesMarked l.design l.marks l.k
