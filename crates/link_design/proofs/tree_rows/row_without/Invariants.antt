use Rattle.link_design.proofs.Rowed.{IsLeftTo}
use Rattle.link_design.proofs.tree_rows.row_without.Given as goal

abbrev pub invariant-loop-net : goal.invariant-loop-net
invariant-loop-net l = IsLeftTo l.marks l.others l.row l.net
