use Rattle.std.proofs.Common.{◌≡◌, drop}
use Rattle.verilog_scope.specs.Folds.{fold_ok}
use Rattle.verilog_scope.specs.Decls as spec
use Rattle.verilog_scope.proofs.decls.declare_nets.Given as goal

abbrev pub invariant-loop-name : goal.invariant-loop-name
invariant-loop-name l = fold_ok (spec.declare_net l.names l.kind l.range) l.fn.decls l.list ≡ fold_ok (spec.declare_net l.names l.kind l.range)
    l.decls (drop l.name-index l.list)
