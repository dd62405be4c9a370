use Rattle.std.proofs.Common.{false}
use Rattle.net_model.proofs.Layered.{LateDone}
use Rattle.net_model.proofs.late_starts.put_late_reg.Given as goal

abbrev pub invariant-loop-o : goal.invariant-loop-o
invariant-loop-o g l = LateDone (g.V.Value.bit_value false) l.value l.inverted l.outs l.initial.rows l.rows l.o
