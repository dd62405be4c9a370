use Rattle.net_model.proofs.Layered.{LayerDone}
use Rattle.net_model.specs.Splitting.{tern_value}
use Rattle.net_model.specs.declared.terns.Tern.TheVariants.{Zero}
use Rattle.firm_runs.proofs.layers.settle_layer.Given as goal

abbrev pub invariant-loop-k : goal.invariant-loop-k
invariant-loop-k l = LayerDone tern_value Zero l.design l.sets l.layer l.initial.rows l.rows l.k
