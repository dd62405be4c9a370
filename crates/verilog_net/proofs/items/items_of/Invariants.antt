use Rattle.std.proofs.Common.{◌≡◌, [], drop, length}
use Rattle.verilog_scope.specs.Folds.{fold_ok}
use Rattle.verilog_net.specs.Items as spec
use Rattle.verilog_net.proofs.items.items_of.Given as goal

abbrev pub invariant-loop-decl : goal.invariant-loop-decl
invariant-loop-decl l = fold_ok (spec.add_item l.hierarchy l.scope) [] l.fn.decls
    ≡ fold_ok (spec.add_item l.hierarchy l.scope) l.items (drop (length l.yielded) l.fn.decls)
