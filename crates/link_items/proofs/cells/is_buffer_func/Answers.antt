use Rattle.std.proofs.Common.{arith}
use Rattle.net_model.specs.FormLaws.{IsOver-weaker}
use Rattle.link_items.proofs.cells.is_buffer_func.Goals as goal

pub apply-requires : goal.apply-requires
apply-requires c = IsOver-weaker 1 7 c.args.func.now (omega arith) c.requires

pub apply-requires-2 : goal.apply-requires-2
apply-requires-2 c = IsOver-weaker 1 7 c.args.func.now (omega arith) c.requires
