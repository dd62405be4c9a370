use Rattle.std.proofs.Common.{false}
use Rattle.net_model.proofs.Settling.{GatesDone}
use Rattle.net_model.proofs.rows.settle_gates.Given as goal

abbrev pub invariant-loop-k : goal.invariant-loop-k
invariant-loop-k g l = GatesDone g.V.Value.applied (g.V.Value.bit_value false) l.design l.initial.nets l.nets l.k
