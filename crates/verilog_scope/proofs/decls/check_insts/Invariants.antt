use Rattle.std.proofs.Common.{◌≡◌, [], drop}
use Rattle.verilog_scope.specs.Folds.{fold_ok}
use Rattle.verilog_scope.specs.Decls as spec
use Rattle.verilog_scope.proofs.decls.check_insts.Given as goal

abbrev pub invariant-loop-item : goal.invariant-loop-item
invariant-loop-item l = fold_ok spec.with_insts [] l.items ≡ fold_ok spec.with_insts l.names (drop l.item-index l.items)
