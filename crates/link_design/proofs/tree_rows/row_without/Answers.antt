use Rattle.std.proofs.Common.{arith}
use Rattle.link_design.proofs.Rowed.{left_all}
use Rattle.link_design.proofs.tree_rows.row_without.Goals as goal

pub returns : goal.returns
returns c = left_all c.args.marks.now c.args.others.now c.loop-net.row c.loop-net.net (omega arith) c.loop-net.invariant
