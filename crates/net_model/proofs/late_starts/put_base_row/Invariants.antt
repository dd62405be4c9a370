use Rattle.std.proofs.Common.{false}
use Rattle.net_model.proofs.Layered.{BaseDone}
use Rattle.net_model.proofs.late_starts.put_base_row.Given as goal

abbrev pub invariant-loop-n : goal.invariant-loop-n
invariant-loop-n g l = BaseDone (g.V.Value.bit_value false) g.V.Value.bit_value l.sets l.layer l.base l.initial.rows l.rows l.n
