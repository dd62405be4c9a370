use Rattle.std.proofs.Common.{◌≡◌, drop, length}
use Rattle.verilog_scope.specs.Folds.{fold_both}
use Rattle.verilog_net.specs.Modules.{modules_made, add_module}
use Rattle.verilog_net.proofs.modules.modules_of.Given as goal

abbrev pub invariant-loop-scope : goal.invariant-loop-scope
invariant-loop-scope l = modules_made l.hierarchy l.fn.decls
    ≡ fold_both (add_module l.hierarchy) l.found (drop (length l.yielded) l.hierarchy.scopes) (drop (length l.yielded) l.fn.decls)
