use Rattle.std.proofs.Common.{arith, length}
use Rattle.net_model.specs.FormLaws.{IsOver-weaker}
use Rattle.net_model.proofs.rows.gate_value.Goals as goal

pub apply-requires : goal.apply-requires
apply-requires g c = IsOver-weaker (length c.args.gate.now.ins) 7 c.args.gate.now.func (omega arith) c.requires.over
