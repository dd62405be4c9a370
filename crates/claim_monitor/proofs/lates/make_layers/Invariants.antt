use Rattle.claim_monitor.proofs.LateLits.{LayersDone}
use Rattle.claim_monitor.proofs.lates.make_layers.Given as goal

abbrev pub invariant-loop-l : goal.invariant-loop-l
invariant-loop-l l = LayersDone l.design l.claim.start l.sets l.literal l.base l.fn.graph l.graph l.rows l.l
