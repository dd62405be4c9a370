use Rattle.std.proofs.Common.{◌≡◌, drop}
use Rattle.verilog_scope.specs.Folds.{fold_ok}
use Rattle.verilog_net.specs.Items as spec
use Rattle.verilog_net.proofs.prims.add_prims.Given as goal

abbrev pub invariant-loop-decl : goal.invariant-loop-decl
invariant-loop-decl l = fold_ok (spec.add_prim l.scope l.kind) l.fn.items l.list ≡ fold_ok (spec.add_prim l.scope l.kind) l.items (drop l.decl-index l.list)
