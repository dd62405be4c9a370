use Rattle.std.proofs.Common.{◌≡◌, drop}
use Rattle.verilog_scope.specs.Folds.{fold_ok}
use Rattle.verilog_scope.specs.Decls as spec
use Rattle.verilog_scope.proofs.decls.declare_items.Given as goal

abbrev pub invariant-loop-item : goal.invariant-loop-item
invariant-loop-item l = fold_ok (spec.declare_item l.names l.listed) l.fn.decls l.items ≡ fold_ok (spec.declare_item l.names l.listed) l.decls
    (drop l.item-index l.items)
