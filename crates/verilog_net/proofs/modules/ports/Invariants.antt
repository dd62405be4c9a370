use Rattle.std.proofs.Common.{◌≡◌, [], map, drop}
use Rattle.verilog_scope.specs.Folds.{fold_ok}
use Rattle.verilog_net.specs.Modules.{add_port}
use Rattle.verilog_net.proofs.modules.ports.Given as goal

abbrev pub invariant-loop-one : goal.invariant-loop-one
invariant-loop-one g l =
    fold_ok (add_port l.scope) [] (map g.T.Listed.spelled l.list) ≡ fold_ok (add_port l.scope) l.found (map g.T.Listed.spelled (drop l.one-index l.list))
