use Rattle.claim_monitor.proofs.LayerLits.{LayerLitsDone}
use Rattle.claim_monitor.proofs.layers.settle_layer.Given as goal

abbrev pub invariant-loop-k : goal.invariant-loop-k
invariant-loop-k l = LayerLitsDone l.design l.sets l.layer l.initial.graph l.initial.rows l.graph l.rows l.k
