use Rattle.std.proofs.Common.{◌≡◌, drop}
use Rattle.verilog_scope.specs.Folds.{fold_ok}
use Rattle.verilog_scope.specs.Decls as spec
use Rattle.verilog_scope.proofs.decls.declare_ports.Given as goal

abbrev pub invariant-loop-port : goal.invariant-loop-port
invariant-loop-port l = fold_ok (spec.declare_port l.names) l.fn.decls l.list ≡ fold_ok (spec.declare_port l.names) l.decls (drop l.port-index l.list)
