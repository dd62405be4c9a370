use Rattle.std.proofs.Common.{false}
use Rattle.net_model.proofs.Layered.{LayerDone}
use Rattle.net_model.proofs.layers.settle_layer.Given as goal

abbrev pub invariant-loop-k : goal.invariant-loop-k
invariant-loop-k g l = LayerDone g.V.Value.applied (g.V.Value.bit_value false) l.design l.sets l.layer l.initial.rows l.rows l.k
