use Rattle.std.proofs.Common.{◌≡◌, drop, slice_get}
use Rattle.verilog_scope.specs.Folds.{fold_ok, each, pushing}
use Rattle.verilog_net.specs.Items as spec
use Rattle.verilog_net.proofs.insts.conns.Given as goal

abbrev pub invariant-loop-decl : goal.invariant-loop-decl
invariant-loop-decl l = each (spec.conn_of l.scope (slice_get l.hierarchy.scopes l.place)) l.list ≡ fold_ok
    (pushing (spec.conn_of l.scope (slice_get l.hierarchy.scopes l.place))) l.found (drop l.decl-index l.list)
