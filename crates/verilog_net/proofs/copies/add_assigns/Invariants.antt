use Rattle.std.proofs.Common.{◌≡◌, drop}
use Rattle.verilog_scope.specs.Folds.{fold_ok}
use Rattle.verilog_net.specs.Items as spec
use Rattle.verilog_net.proofs.copies.add_assigns.Given as goal

abbrev pub invariant-loop-assign : goal.invariant-loop-assign
invariant-loop-assign l = fold_ok (spec.add_assign l.scope) l.fn.items l.list ≡ fold_ok (spec.add_assign l.scope) l.items (drop l.assign-index l.list)
