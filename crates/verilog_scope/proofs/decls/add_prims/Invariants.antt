use Rattle.std.proofs.Common.{◌≡◌, drop}
use Rattle.verilog_scope.specs.Folds.{fold_ok}
use Rattle.verilog_scope.specs.Decls as spec
use Rattle.verilog_scope.proofs.decls.add_prims.Given as goal

abbrev pub invariant-loop-prim : goal.invariant-loop-prim
invariant-loop-prim l = fold_ok spec.with_prim l.fn.names l.list ≡ fold_ok spec.with_prim l.names (drop l.prim-index l.list)
