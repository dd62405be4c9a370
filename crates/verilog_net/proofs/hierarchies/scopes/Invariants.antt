use Rattle.std.proofs.Common.{◌≡◌, drop}
use Rattle.verilog_scope.specs.Folds.{fold_ok, each, pushing}
use Rattle.verilog_scope.specs.Scopes.{scope_of}
use Rattle.verilog_net.proofs.hierarchies.scopes.Given as goal

abbrev pub invariant-loop-decl : goal.invariant-loop-decl
invariant-loop-decl l = each scope_of l.decls ≡ fold_ok (pushing scope_of) l.found (drop l.decl-index l.decls)
